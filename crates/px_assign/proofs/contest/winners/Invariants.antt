use Rattle.std.proofs.Common.{◌≡◌, ◌<◌, ◌++◌, length, Some, IfSome}
use Rattle.std.specs.List.{filter_map}
use Rattle.px_links.specs.Links.{holder_of, rest_of}
use Rattle.px_links.specs.Lists.{nth}
use Rattle.px_assign.specs.Ordering.{first_at}
use Rattle.px_assign.proofs.contest.winners.Given as goal

abbrev pub invariant-loop-at : goal.invariant-loop-at
invariant-loop-at l =
    (filter_map (first_at l.firsts.places.items l.firsts.writers.items) (nth l.contested.lists 0)
    ≡ l.winners.items ++ filter_map (first_at l.firsts.places.items l.firsts.writers.items) (rest_of l.contested l.at))
    × (IfSome l.at (λ variable. variable < l.contested.cells)
    × IfSome l.at (λ variable. holder_of l.contested variable ≡ Some 0))

abbrev pub decreases-loop-at : goal.decreases-loop-at
decreases-loop-at l = length (rest_of l.contested l.at)

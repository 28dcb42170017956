use Rattle.std.proofs.Common.{◌≡◌, ◌++◌, take}
use Rattle.std.specs.List.{filter_map}
use Rattle.px_micro.specs.Going.{with_node}
use Rattle.px_machine.specs.Kept.{arrival_of}
use Rattle.px_machine.proofs.contest.push_winners.Given as goal

-- the winners so far, with where they go
abbrev pub invariant-loop-node : goal.invariant-loop-node
invariant-loop-node l = l.going.items ≡ l.initial.going.items
    ++ filter_map (λ node. with_node node (arrival_of l.parts l.kept node)) (take l.node-index l.node-items)

use Rattle.std.proofs.Common.{◌≤◌}
use Rattle.px_tally.specs.Tally.{is_counted}
use Rattle.px_assign.specs.Ordering.{place_wanting}
use Rattle.px_assign.proofs.firsts.Firsts.first_from.Given as goal

abbrev pub invariant-loop-place : goal.invariant-loop-place
invariant-loop-place l = l.place ≤ place_wanting (is_counted l.wanting) l.self.writers.items l.variable

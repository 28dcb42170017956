use Rattle.std.proofs.Common.{◌≤◌}
use Rattle.px_cached.proofs.crossing.crossed_from.Given as goal

abbrev pub invariant-loop-from : goal.invariant-loop-from
invariant-loop-from l = l.from ≤ l.split

abbrev pub decreases-loop-from : goal.decreases-loop-from
decreases-loop-from l = l.from

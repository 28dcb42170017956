use Rattle.std.proofs.Common.{◌-◌, ◌≤◌, length}
use Rattle.px_cached.proofs.crossing.crossed_to.Given as goal

abbrev pub invariant-loop-to : goal.invariant-loop-to
invariant-loop-to l = (l.split ≤ l.to) × (l.to ≤ length l.watchers)

abbrev pub decreases-loop-to : goal.decreases-loop-to
decreases-loop-to l = length l.watchers - l.to

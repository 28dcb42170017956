use Rattle.std.proofs.Common.{◌-◌, length}
use Rattle.px_cached.proofs.Climbing.{IsUpTo}
use Rattle.px_cached.proofs.carrying.carry.Given as goal

abbrev pub invariant-up : goal.invariant-up
invariant-up l = IsUpTo l.network l.above l.fn.truths l.fn.from l.fn.truth l.truths l.at l.looks

abbrev pub decreases-up : goal.decreases-up
decreases-up l = length l.network - l.at

use Rattle.std.proofs.Common.{◌-◌}
use Rattle.px_sem.specs.Run.{steps_until_quiet}
use Rattle.px_sem.proofs.Settles.{IsUnderway}
use Rattle.px_output.proofs.summary.settle.Given as goal

abbrev pub invariant-loop-count : goal.invariant-loop-count
invariant-loop-count g l = IsUnderway (g.S.Stepper.state l.fn.stepper) (g.S.Stepper.state l.stepper) l.count

abbrev pub decreases-loop-count : goal.decreases-loop-count
decreases-loop-count g l = steps_until_quiet (g.S.Stepper.state l.fn.stepper).nodes (g.S.Stepper.state l.fn.stepper).world - l.count

use Rattle.px_sem.proofs.settling.step_until_quiet.Given as goal
use Rattle.px_sem.proofs.Settles.{IsUnderway}

abbrev pub invariant-loop-taken : goal.invariant-loop-taken
invariant-loop-taken g l = IsUnderway (g.S.Stepper.state l.fn.stepper) (g.S.Stepper.state l.stepper) l.taken

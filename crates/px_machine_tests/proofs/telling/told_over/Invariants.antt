use Rattle.std.proofs.Common.{◌≡◌}
use Rattle.px_sem.specs.Stepper.{Pending}
use Rattle.px_machine_tests.proofs.telling.told_over.Given as goal

abbrev pub invariant-loop-entry : goal.invariant-loop-entry
invariant-loop-entry g l = (g.S.Stepper.state l.stepper).pending ≡ Pending.Nothing

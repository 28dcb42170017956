use Rattle.std.proofs.Common.{◌≡◌}
use Rattle.px_machine_tests.proofs.telling.settled.Given as goal

abbrev pub invariant-loop-taken : goal.invariant-loop-taken
invariant-loop-taken g l = (g.S.Stepper.state l.stepper).pending ≡ (g.S.Stepper.state l.fn.stepper).pending

use Rattle.std.proofs.Common.{IsTrue}
use Rattle.px_sem.specs.Stepper.{is_event}
use Rattle.px_machine_tests.proofs.detours.go_on.Given as goal

abbrev pub invariant-loop : goal.invariant-loop
invariant-loop g l = IsTrue (is_event (g.S.Stepper.state l.stepper).pending)

use Rattle.px_sem.specs.Stepper.{is_pending}
use Rattle.std.specs.Prelude.{IsTrue}
use Rattle.px_view.proofs.runaway.step_until_quiet.Given as goal

abbrev pub invariant-loop : goal.invariant-loop
invariant-loop g l = IsTrue (is_pending (g.S.Stepper.state l.stepper).pending)

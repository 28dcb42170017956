use Rattle.std.specs.Prelude.{◌≡◌}
use Rattle.px_sem.specs.Stepper.{Nothing}
use Rattle.px_chart.proofs.record.post_each.Given as goal

abbrev pub invariant-loop-entry : goal.invariant-loop-entry
invariant-loop-entry g l = (g.S.Stepper.state l.stepper).pending ≡ Nothing

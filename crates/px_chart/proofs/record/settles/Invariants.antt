use Rattle.std.specs.Prelude.{◌≡◌}
use Rattle.px_chart.proofs.record.settles.Given as goal

abbrev pub invariant-loop : goal.invariant-loop
invariant-loop g l = (g.S.Stepper.state l.stepper).pending ≡ (g.S.Stepper.state l.fn.stepper).pending

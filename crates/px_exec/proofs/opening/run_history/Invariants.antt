use Rattle.std.proofs.Common.{◌≡◌}
use Rattle.px_exec.proofs.Running.{HasRun}
use Rattle.px_exec.proofs.opening.run_history.Given as goal

abbrev pub invariant-loop-entry : goal.invariant-loop-entry
invariant-loop-entry g l = record {
  counted : l.at ≡ l.entry-index;
  ran : HasRun (g.S.Stepper.state l.fn.stepper).nodes l.history l.entry-index (g.S.Stepper.state l.stepper);
}

use Rattle.px_output.proofs.Counting.{IsCounted}
use Rattle.px_output.proofs.summary.count_steps.Given as goal

abbrev pub invariant-loop-entry : goal.invariant-loop-entry
invariant-loop-entry g l =
    IsCounted (g.S.Stepper.state l.fn.stepper).nodes l.history l.entry-index (g.S.Stepper.state l.stepper) l.steps

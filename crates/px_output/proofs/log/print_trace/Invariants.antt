use Rattle.std.proofs.Common.{◌≡◌}
use Rattle.px_output.specs.View.{view}
use Rattle.px_output.proofs.Telling.{IsTold}
use Rattle.px_output.proofs.log.print_trace.Given as goal

abbrev pub invariant-loop-entry : goal.invariant-loop-entry
invariant-loop-entry g l = record {
  told : IsTold (g.S.Stepper.state l.fn.stepper).nodes l.history l.entry-index (g.S.Stepper.state l.stepper)
      (view g.H.Host l.fn.host) l.fn.printer (view g.H.Host l.host) l.printer;
  counted : l.position ≡ l.entry-index;
}

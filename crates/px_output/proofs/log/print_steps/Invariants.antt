use Rattle.std.proofs.Common.{◌-◌}
use Rattle.px_sem.specs.Run.{steps_until_quiet}
use Rattle.px_output.specs.View.{view}
use Rattle.px_output.proofs.Tracing.{IsTracing}
use Rattle.px_output.proofs.log.print_steps.Given as goal

abbrev pub invariant-loop-count : goal.invariant-loop-count
invariant-loop-count g l =
    IsTracing (g.S.Stepper.state l.fn.stepper) (view g.H.Host l.fn.host) l.fn.printer
    (g.S.Stepper.state l.stepper) l.count (view g.H.Host l.host) l.printer

abbrev pub decreases-loop-count : goal.decreases-loop-count
decreases-loop-count g l = steps_until_quiet (g.S.Stepper.state l.fn.stepper).nodes (g.S.Stepper.state l.fn.stepper).world - l.count

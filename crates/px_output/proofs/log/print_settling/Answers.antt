use Rattle.std.proofs.Common.{ℕ, List, ◌∙◌, [], sym, ap, ◌++◌, append-nil}
use Rattle.px_sem.specs.Stepper.{State}
use Rattle.px_sem.specs.Text.{quiet_text}
use Rattle.px_sem.proofs.Settles.{settled_quiet}
use Rattle.px_output.specs.Printing.{run_text}
use Rattle.px_output.specs.View.{view}
use Rattle.px_output.proofs.Printed.{goes_on, fails, fails_first}
use Rattle.px_output.proofs.Tracing.{settling_is, run_within}
use Rattle.px_output.proofs.log.print_settling.Goals as goal

pub returns-in_err-count-clause-prints : goal.returns-in_err-count-clause-prints
returns-in_err-count-clause-prints g c =
    let from : State = g.S.Stepper.state c.args.stepper.now in
    let more = run_within from.nodes from.world c.requires.settles in
    fails_first ℕ (view g.H.Host c.args.host.now) (view g.H.Host c.print_steps.new.host) c.args.printer.now c.print_steps.new.printer _
    (run_text from.nodes from.world) more.0 _ _ _ c.from_residual.ensures.1 c.in_err-count.ensures.prints more.1

pub settle-requires-clause-quiet : goal.settle-requires-clause-quiet
settle-requires-clause-quiet g c =
    settled_quiet _ _ (g.S.Stepper.state c.print_steps.new.stepper) _ c.in_ok-count.ensures.plan c.in_ok-count.ensures.settled

pub returns-in_err-quiet-clause-prints : goal.returns-in_err-quiet-clause-prints
returns-in_err-quiet-clause-prints g c =
    let from : State = g.S.Stepper.state c.args.stepper.now in
    let quiet : List ℕ = quiet_text c.in_ok-count.count in
    fails Unit (view g.H.Host c.args.host.now) (view g.H.Host c.print_steps.new.host) (view g.H.Host c.quiet.new.host) c.args.printer.now
    c.print_steps.new.printer c.quiet.new.self _ (run_text from.nodes from.world) quiet [] _ _ _ c.from_residual-in_err-quiet.ensures.1
    c.in_ok-count.ensures.prints c.in_ok-count.ensures.only c.in_err-quiet.ensures.prints
    (settling_is from.nodes from.world _ _ c.in_ok-count.ensures.settled ∙ ap (λ more. run_text from.nodes from.world ++ more) (sym (append-nil quiet)))

pub returns-clause-prints : goal.returns-clause-prints
returns-clause-prints g c =
    let from : State = g.S.Stepper.state c.args.stepper.now in
    rw (settling_is from.nodes from.world _ _ c.in_ok-count.ensures.settled)
    (goes_on (view g.H.Host c.args.host.now) (view g.H.Host c.print_steps.new.host) (view g.H.Host c.quiet.new.host) c.args.printer.now
    c.print_steps.new.printer c.quiet.new.self (run_text from.nodes from.world) (quiet_text c.in_ok-count.count)
    c.in_ok-count.ensures.prints c.in_ok-quiet.ensures.prints)

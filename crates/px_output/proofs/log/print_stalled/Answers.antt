use Rattle.std.proofs.Common.{[], ◌++◌, Ok, Err, ap, refl, sym, append-nil}
use Rattle.px_sem.specs.Text.{text_of}
use Rattle.px_output.specs.Stalls.{stall_lines}
use Rattle.px_output.specs.View.{view}
use Rattle.px_output.proofs.Printed.{fails, fails_first, finished, from_nothing, goes_on, only_more}
use Rattle.px_output.proofs.log.print_stalled.Goals as goal

pub returns-in_err-print_text-clause-prints : goal.returns-in_err-print_text-clause-prints
returns-in_err-print_text-clause-prints g c = λ before whole.
    let old = view g.H.Host c.args.host.now in
    let new = view g.H.Host c.print_text.new.host in
    let text = text_of (g.S.Stepper.state c.args.stepper.now).nodes before c.args.log.now in
    let fault = c.in_err-print_text.field-0.0 in
    fails_first Unit old new [] c.print_text.new.printer _ text (stall_lines c.args.stalls.now) _ fault _ c.from_residual.ensures.1
    (from_nothing old new c.new-printer.result c.print_text.new.printer text (Err fault) c.new-printer.ensures (c.in_err-print_text.ensures.prints before whole)) refl

pub returns-in_err-print_stalls-clause-prints : goal.returns-in_err-print_stalls-clause-prints
returns-in_err-print_stalls-clause-prints g c = λ before whole.
    let old = view g.H.Host c.args.host.now in
    let mid = view g.H.Host c.print_text.new.host in
    let text = text_of (g.S.Stepper.state c.args.stepper.now).nodes before c.args.log.now in
    let lines = stall_lines c.args.stalls.now in
    fails Unit old mid (view g.H.Host c.print_stalls.new.host) [] c.print_text.new.printer c.print_stalls.new.printer _ text lines [] _ _ _
    c.from_residual-in_err-print_stalls.ensures.1
    (from_nothing old mid _ _ text (Ok tt) c.new-printer.ensures (c.in_ok-print_text.ensures.prints before whole))
    c.in_ok-print_text.ensures.only c.in_err-print_stalls.ensures.prints (ap (λ rest. text ++ rest) (sym (append-nil lines)))

pub returns-clause-prints : goal.returns-clause-prints
returns-clause-prints g c = λ before whole.
    let old = view g.H.Host c.args.host.now in
    let mid = view g.H.Host c.print_text.new.host in
    let stalled = view g.H.Host c.print_stalls.new.host in
    let text = text_of (g.S.Stepper.state c.args.stepper.now).nodes before c.args.log.now in
    let lines = stall_lines c.args.stalls.now in
    finished old stalled (view g.H.Host c.finish.new.host) c.print_stalls.new.printer (text ++ lines) _ _ refl
    (goes_on old mid stalled [] c.print_text.new.printer c.print_stalls.new.printer text lines
    (from_nothing old mid _ _ text (Ok tt) c.new-printer.ensures (c.in_ok-print_text.ensures.prints before whole))
    c.in_ok-print_stalls.ensures.prints)
    (only_more old mid stalled c.in_ok-print_text.ensures.only c.in_ok-print_stalls.ensures.only) c.finish.ensures.prints

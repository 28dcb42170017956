use Rattle.std.proofs.Common.{[], ◌++◌, Ok, Err, refl, ap, sym, append-nil}
use Rattle.px_sem.specs.Text.{log_lines, standing_text}
use Rattle.px_output.specs.View.{view}
use Rattle.px_output.proofs.Printed.{goes_on, only_more, fails, fails_first, finished, from_nothing}
use Rattle.px_output.proofs.log.print_gathered.Goals as goal

pub returns-in_err-text-clause-prints : goal.returns-in_err-text-clause-prints
returns-in_err-text-clause-prints g c =
    let old = view g.H.Host c.args.host.now in
    let new = view g.H.Host c.text.new.host in
    let trace = c.args.trace.items in
    let fault = c.in_err-text.field-0.0 in
    fails_first Unit old new [] c.text.new.self _ trace (log_lines c.args.log.now ++ standing_text c.args.standing) _ fault _ c.from_residual.ensures.1
    (from_nothing old new c.new-printer.result c.text.new.self trace (Err fault) c.new-printer.ensures c.in_err-text.ensures.gathers.prints) refl

pub returns-in_err-print_end-clause-prints : goal.returns-in_err-print_end-clause-prints
returns-in_err-print_end-clause-prints g c =
    let old = view g.H.Host c.args.host.now in
    let mid = view g.H.Host c.text.new.host in
    let trace = c.args.trace.items in
    let end = log_lines c.args.log.now ++ standing_text c.args.standing in
    fails Unit old mid (view g.H.Host c.print_end.new.host) [] c.text.new.self c.print_end.new.printer _ trace end [] _ c.in_err-print_end.field-0.0 _
    c.from_residual-in_err-print_end.ensures.1
    (from_nothing old mid c.new-printer.result c.text.new.self trace (Ok tt) c.new-printer.ensures c.in_ok-text.ensures.gathers.prints) c.in_ok-text.ensures.gathers.only
    c.in_err-print_end.ensures.prints (ap (λ text. trace ++ text) (sym (append-nil end)))

pub returns-clause-prints : goal.returns-clause-prints
returns-clause-prints g c =
    let old = view g.H.Host c.args.host.now in
    let mid = view g.H.Host c.text.new.host in
    let told = view g.H.Host c.print_end.new.host in
    let trace = c.args.trace.items in
    let end = log_lines c.args.log.now ++ standing_text c.args.standing in
    finished old told (view g.H.Host c.finish.new.host) c.print_end.new.printer (trace ++ end) (trace ++ end) _ refl
    (goes_on old mid told [] c.text.new.self c.print_end.new.printer trace end
    (from_nothing old mid c.new-printer.result c.text.new.self trace (Ok tt) c.new-printer.ensures c.in_ok-text.ensures.gathers.prints) c.in_ok-print_end.ensures.prints)
    (only_more old mid told c.in_ok-text.ensures.gathers.only c.in_ok-print_end.ensures.only) c.finish.ensures.prints

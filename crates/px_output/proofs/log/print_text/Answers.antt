use Rattle.std.proofs.Common.{◌≡◌, ◌∙◌, ◌++◌, Ok, Err, ap, refl, subst}
use Rattle.px_value.proofs.General.{on_ok}
use Rattle.px_sem.specs.Log.{HasRun}
use Rattle.px_sem.specs.Stepper.{State}
use Rattle.px_sem.specs.Text.{trace, log_lines, standing_text}
use Rattle.px_sem.specs.World.{standing_of}
use Rattle.px_sem.specs.declared.standing.Standing.{Standing}
use Rattle.px_output.specs.Printing.{Prints}
use Rattle.px_output.specs.View.{view}
use Rattle.px_output.proofs.Printed.{ends, fails_first}
use Rattle.px_output.proofs.Logging.{prints_text, trace_prints, world_is}
use Rattle.px_output.proofs.log.print_text.Goals as goal

pub returns-in_err-print_trace-clause-prints : goal.returns-in_err-print_trace-clause-prints
returns-in_err-print_trace-clause-prints g c =
    let plan = (g.S.Stepper.state c.args.stepper.now).nodes in
    let history = c.args.history.now in
    let old = view g.H.Host c.args.host.now in
    let new = view g.H.Host c.print_trace.new.host in
    let buffer = c.print_trace.new.printer in
    let traced = trace_prints _ plan history old new c.args.printer.now buffer (Err c.in_err-print_trace.field-0.0)
    (ap (λ (s : State). s.nodes) c.rewind.ensures.fresh) c.in_err-print_trace.ensures.prints in
    prints_text plan history c.args.log.now old new c.args.printer.now buffer _ c.requires.runs
    (λ world _.
    fails_first Unit old new c.args.printer.now buffer _ (trace plan history) (log_lines c.args.log.now ++ standing_text (standing_of plan world))
    _ _ _ c.from_residual.ensures.1 traced refl)

pub returns-clause-prints : goal.returns-clause-prints
returns-clause-prints g c =
    let plan = (g.S.Stepper.state c.args.stepper.now).nodes in
    let history = c.args.history.now in
    let log = c.args.log.now in
    let old = view g.H.Host c.args.host.now in
    let mid = view g.H.Host c.print_trace.new.host in
    let new = view g.H.Host c.print_end.new.host in
    let buffer = c.print_trace.new.printer in
    let end : State = g.S.Stepper.state c.print_trace.new.stepper in
    let fresh : (g.S.Stepper.state c.rewind.new.self).nodes ≡ plan = ap (λ (s : State). s.nodes) c.rewind.ensures.fresh in
    let traced = trace_prints _ plan history old mid c.args.printer.now buffer (Ok tt) fresh c.in_ok-print_trace.ensures.prints in
    prints_text plan history log old new c.args.printer.now c.print_end.new.printer _ c.requires.runs
    (λ world is.
    let stands : c.standing.result ≡ standing_of plan world =
    ◌∙◌ {b = standing_of end.nodes end.world} c.standing.ensures
    (ap (λ nodes. standing_of nodes end.world) (ap (λ (s : State). s.nodes) c.in_ok-print_trace.ensures.runs.1 ∙ fresh)
    ∙ ap (standing_of plan) (world_is plan _ history end.world world fresh c.in_ok-print_trace.ensures.runs.0 is)) in
    ends old mid new c.args.printer.now buffer c.print_end.new.printer (trace plan history) (log_lines log ++ standing_text (standing_of plan world))
    _ _ refl traced c.in_ok-print_trace.ensures.only
    (subst (λ (s : Standing). Prints mid buffer new c.print_end.new.printer (log_lines log ++ standing_text s) c.print_end.result) stands
    c.print_end.ensures.prints))

pub returns-clause-stands : goal.returns-clause-stands
returns-clause-stands g c =
    let fresh = ap (λ (s : State). s.nodes) c.rewind.ensures.fresh in
    on_ok c.print_end.result
    (subst (λ plan. HasRun plan c.args.history.now (g.S.Stepper.state c.print_trace.new.stepper)) fresh c.in_ok-print_trace.ensures.runs)

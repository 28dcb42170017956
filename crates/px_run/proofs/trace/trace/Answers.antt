use Rattle.std.proofs.Common.{List, [], Ok, Err, ap, sym, subst, ◌∙◌, append-nil, IsTrue}
use Rattle.std.specs.List.{list_all}
use Rattle.px_event.specs.Fit.{is_fit_entry}
use Rattle.px_event.specs.declared.entry.Entry.{Entry}
use Rattle.px_journal.proofs.Ready.{ready_fit}
use Rattle.px_output.specs.Printing.{Prints}
use Rattle.px_output.specs.View.{view}
use Rattle.px_sem.specs.Stepper.{State}
use Rattle.px_sem.specs.Text.{text_of}
use Rattle.px_run.proofs.Resumed.{not_taken_up, trace_printed, trace_broken_off}
use Rattle.px_run.proofs.trace.trace.Goals as goal

pub print_log-requires-clause-events : goal.print_log-requires-clause-events
print_log-requires-clause-events g c =
    let r = c.in-Ok.ensures.reopened in
    subst (λ (h : List Entry). IsTrue (list_all is_fit_entry h))
    (sym (c.deref.ensures.value ∙ c.into_parts-stepper.ensures.history ∙ r.opening.now)) (ready_fit _ _ _ _ r.ready)

pub returns-in-Err-clause-traces : goal.returns-in-Err-clause-traces
returns-in-Err-clause-traces g c =
    rw c.into.ensures (not_taken_up g.D.Disk c.args.journal.now _ (view g.H.Host c.args.host.now) c.args.disk c.in-Err.field-0 c.in-Err.ensures.refused)

pub returns-in-Ok-print_log-clause-traces : goal.returns-in-Ok-print_log-clause-traces
returns-in-Ok-print_log-clause-traces g c =
    let reopened = c.in-Ok.reopened in
    let r = c.in-Ok.ensures.reopened in
    let nodes = ap (λ (s : g.row.S.Denot). (g.S.Stepper.state s).nodes) c.into_parts-stepper.ensures.stepper
    ∙ ap (λ (s : State). s.nodes) c.keeps.ensures.settled ∙ r.nodes in
    trace_printed g.S.Stepper g.D.Disk c.args.journal.now 100000 c.args.disk reopened r (view g.H.Host c.args.host.now) (view g.H.Host c.print_log.new.host) c.into_disk-disk.result
    (c.into_disk-disk.ensures ∙ ap (λ j. j.disk) (c.into_parts-stepper.ensures.journal ∙ r.opening.untouched))
    (subst (λ plan. Prints {T = Unit} (view g.H.Host c.args.host.now) [] (view g.H.Host c.print_log.new.host) [] (text_of plan reopened.exec.opening.history []) (Ok tt)) nodes
    (c.in-Ok-print_log.ensures.prints reopened.exec.opening.history
    (c.deref.ensures.value ∙ c.into_parts-stepper.ensures.history ∙ r.opening.now ∙ sym (append-nil reopened.exec.opening.history))))

pub returns-clause-traces : goal.returns-clause-traces
returns-clause-traces g c =
    let reopened = c.in-Ok.reopened in
    let r = c.in-Ok.ensures.reopened in
    let nodes = ap (λ (s : g.row.S.Denot). (g.S.Stepper.state s).nodes) c.into_parts-stepper.ensures.stepper
    ∙ ap (λ (s : State). s.nodes) c.keeps.ensures.settled ∙ r.nodes in
    rw c.into-in-Err-print_log.ensures
    (trace_broken_off g.S.Stepper g.D.Disk c.args.journal.now 100000 c.args.disk reopened r (view g.H.Host c.args.host.now) (view g.H.Host c.print_log.new.host) c.into_disk-disk.result
    (c.into_disk-disk.ensures ∙ ap (λ j. j.disk) (c.into_parts-stepper.ensures.journal ∙ r.opening.untouched)) c.in-Err-print_log.fault
    (subst (λ plan. Prints {T = Unit} (view g.H.Host c.args.host.now) [] (view g.H.Host c.print_log.new.host) [] (text_of plan reopened.exec.opening.history []) (Err c.in-Err-print_log.fault)) nodes
    (c.in-Err-print_log.ensures.prints reopened.exec.opening.history
    (c.deref.ensures.value ∙ c.into_parts-stepper.ensures.history ∙ r.opening.now ∙ sym (append-nil reopened.exec.opening.history)))))

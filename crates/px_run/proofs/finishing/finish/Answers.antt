use Rattle.std.proofs.Common.{◌≡◌, ℕ, ◌++◌, Ok, Err, List, refl, ap, sym, subst}
use Rattle.px_crew.specs.Crew.{Ends}
use Rattle.px_event.specs.declared.entry.Entry.{Entry}
use Rattle.px_exec.specs.Executive.{plan_of}
use Rattle.px_output.specs.Stalls.{stall_lines}
use Rattle.px_output.specs.View.{view}
use Rattle.px_script.specs.Follows.{AreStalled}
use Rattle.px_sem.specs.Log.{Log}
use Rattle.px_sem.specs.Stepper.{State}
use Rattle.px_sem.specs.Text.{text_of}
use Rattle.px_ending.specs.Ending.{stalled_ending}
use Rattle.px_run.specs.Telling.{told_text, told_ending}
use Rattle.px_ending.specs.declared.status.End.TheVariants as ends
use Rattle.px_run.proofs.Finished.{prints_session, due_whole, due_stalled, finished_printed, finished_broken_off, finished_failed, finished_early}
use Rattle.px_run.proofs.finishing.finish.Goals as goal
use Rattle.px_run.proofs.finishing.finish.Goals.{in-Done+in-Ok, in-Done+in-Err, in-Stalled, in-Ok-print_stalled, in-Err-print_stalled, in-Disk, in-NoMemory}

pub returns-clause-finishes : goal.returns-clause-finishes
returns-clause-finishes g c = λ text is.
    let exec = c.args.exec in
    let first = exec.opening.history in
    let threads = c.args.script.now.threads in
    let posted = c.post_rest-disk.result in
    let log = posted.log.items in
    let p = c.post_rest-disk.ensures in
    let plan = (g.S.Stepper.state posted.stepper).nodes in
    let nodes : plan_of g.S.Stepper exec ≡ plan = sym (ap (λ (s : State). s.nodes) p.has_run.1) in
    let before = view g.H.Host c.args.host.now in
    elim c.match-end.branch [
      | in-Done+in-Ok w ↦
          let now = view g.H.Host w.print_whole.new.host in
          rw (w.host-is, w.result-is)
          (finished_printed g.S.Stepper g.D.Disk c.args.telling plan text exec threads posted p is nodes before now ends.Done (told_ending c.args.telling plan first log)
          (due_whole g.S.Stepper g.D.Disk c.args.telling plan text exec threads posted p is nodes before now w.in-Done.is) refl
          (prints_session (told_text c.args.telling plan) before now w.deref.result.now posted.history.items first w.deref-in-Done.result.now log (Ok tt)
          w.deref.ensures.value w.deref-in-Done.ensures.value p.history w.in-Ok.ensures.prints))
      | in-Done+in-Err w ↦
          let now = view g.H.Host w.print_whole.new.host in
          rw (w.host-is, w.result-is, w.into.ensures)
          (finished_broken_off g.S.Stepper g.D.Disk c.args.telling plan text exec threads posted p is nodes before now (told_ending c.args.telling plan first log) w.in-Err.fault
          (due_whole g.S.Stepper g.D.Disk c.args.telling plan text exec threads posted p is nodes before now w.in-Done.is)
          (prints_session (told_text c.args.telling plan) before now w.deref.result.now posted.history.items first w.deref-in-Done.result.now log (Err w.in-Err.fault)
          w.deref.ensures.value w.deref-in-Done.ensures.value p.history w.in-Err.ensures.prints))
      | in-Stalled w ↦
          let now = view g.H.Host w.print_stalled.new.host in
          let shown = w.deref-in-Stalled-3.result.now in
          let end = subst (Ends (plan_of g.S.Stepper exec) first log threads p.failed) w.in-Stalled.is p.ends in
          let stalled = subst (AreStalled (plan_of g.S.Stepper exec) first log threads) (sym w.deref-in-Stalled-3.ensures.value) end.1 in
          let due = due_stalled g.S.Stepper g.D.Disk c.args.telling plan text exec threads posted p is nodes before now shown end.0 stalled in
          let whole : List Entry → Log → List ℕ = λ before log. text_of plan before log ++ stall_lines shown in
          elim w.match-print_stalled.branch [
            | in-Ok-print_stalled v ↦ rw (w.host-is, w.result-is, v.result-is)
                (finished_printed g.S.Stepper g.D.Disk c.args.telling plan text exec threads posted p is nodes before now ends.Stalled
                (stalled_ending plan first log shown) due refl
                (prints_session whole before now w.deref-in-Stalled.result.now posted.history.items first w.deref-in-Stalled-2.result.now log (Ok tt)
                w.deref-in-Stalled.ensures.value w.deref-in-Stalled-2.ensures.value p.history v.in-Ok-print_stalled.ensures.prints))
            | in-Err-print_stalled v ↦ rw (w.host-is, w.result-is, v.result-is, v.into-in-Err-print_stalled.ensures)
                (finished_broken_off g.S.Stepper g.D.Disk c.args.telling plan text exec threads posted p is nodes before now
                (stalled_ending plan first log shown) v.in-Err-print_stalled.fault due
                (prints_session whole before now w.deref-in-Stalled.result.now posted.history.items first w.deref-in-Stalled-2.result.now log
                (Err v.in-Err-print_stalled.fault) w.deref-in-Stalled.ensures.value w.deref-in-Stalled-2.ensures.value p.history
                v.in-Err-print_stalled.ensures.prints))
          ]
      | in-Disk w ↦ rw (w.host-is, w.result-is)
          (finished_failed g.S.Stepper g.D.Disk c.args.telling plan text exec threads posted p is nodes before before w.in-Disk.is refl)
      | in-NoMemory w ↦ rw (w.host-is, w.result-is)
          (finished_early g.S.Stepper g.D.Disk c.args.telling plan text exec threads posted p is nodes before before w.in-NoMemory.is refl)
    ]

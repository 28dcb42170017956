use Rattle.std.proofs.Common.{map, refl, sym, ap, ◌∙◌}
use Rattle.std.specs.Option.{option_map}
use Rattle.std.specs.String.{string_bytes}
use Rattle.px_output.specs.View.{view}
use Rattle.px_words.specs.Asked.{asked}
use Rattle.px_words.specs.Words.{command}
use Rattle.px_run.proofs.Carrying.{asks_for, early_performed, usage_performed, trace_start_performed, dry_run_performed, check_performed, format_performed, run_performed, resume_performed, trace_performed, names_performed, soak_performed}
use Rattle.px_run.proofs.top.carry_out.Goals as goal
use Rattle.px_run.proofs.top.carry_out.Goals.{in-None, in-Some-TraceStart, in-Some-DryRun, in-Some-Check, in-Some-Format}

pub returns-in-Err-clause-performs : goal.returns-in-Err-clause-performs
returns-in-Err-clause-performs g c =
    early_performed g.D.Disk (view g.H.Host c.args.host.now) c.args.disk c.requires.unbound (command (map string_bytes c.args.words.now))

pub returns-in-Some-Run-clause-performs : goal.returns-in-Some-Run-clause-performs
returns-in-Some-Run-clause-performs g c =
    let words = command (map string_bytes c.args.words.now) in
    let at = c.in-Some-Run in
    run_performed g.D.Disk (view g.H.Host c.args.host.now) (view g.H.Host c.run.new.host) c.args.disk c.run.result words at.plan.now at.script.now at.journal.now at.limit
    (asks_for c.in-Ok.ensures.asked at.is (rw at.is at at.field-0-is)) c.run.ensures.runs

pub returns-in-Some-Resume-clause-performs : goal.returns-in-Some-Resume-clause-performs
returns-in-Some-Resume-clause-performs g c =
    let words = command (map string_bytes c.args.words.now) in
    let at = c.in-Some-Resume in
    resume_performed g.D.Disk (view g.H.Host c.args.host.now) (view g.H.Host c.resume.new.host) c.args.disk c.resume.result words at.script.now at.journal.now at.limit
    (asks_for c.in-Ok.ensures.asked at.is (rw at.is at at.field-0-is)) c.resume.ensures.resumes

pub returns-in-Some-Trace-clause-performs : goal.returns-in-Some-Trace-clause-performs
returns-in-Some-Trace-clause-performs g c =
    let words = command (map string_bytes c.args.words.now) in
    let at = c.in-Some-Trace in
    trace_performed g.D.Disk (view g.H.Host c.args.host.now) (view g.H.Host c.trace.new.host) c.args.disk c.trace.result words at.journal.now
    (asks_for c.in-Ok.ensures.asked at.is (rw at.is at at.field-0-is)) c.trace.ensures.traces

pub returns-in-Some-Names-clause-performs : goal.returns-in-Some-Names-clause-performs
returns-in-Some-Names-clause-performs g c =
    let words = command (map string_bytes c.args.words.now) in
    let at = c.in-Some-Names in
    names_performed g.D.Disk (view g.H.Host c.args.host.now) (view g.H.Host c.names.new.host) c.args.disk c.names.result words at.journal.now
    (asks_for c.in-Ok.ensures.asked at.is (rw at.is at at.field-0-is)) c.names.ensures.names

pub returns-in-Some-Soak-clause-performs : goal.returns-in-Some-Soak-clause-performs
returns-in-Some-Soak-clause-performs g c =
    let words = command (map string_bytes c.args.words.now) in
    let at = c.in-Some-Soak in
    soak_performed g.D.Disk (view g.H.Host c.args.host.now) (view g.H.Host c.soak.new.host) c.args.disk c.soak.result words at.count at.seed at.journal.now
    (asks_for c.in-Ok.ensures.asked at.is (rw at.is at at.field-0-is)) c.soak.ensures.soaks

pub returns-clause-performs : goal.returns-clause-performs
returns-clause-performs g c =
    let words = command (map string_bytes c.args.words.now) in
    let before = view g.H.Host c.args.host.now in
    let disk = c.args.disk in
    elim c.match-asked.branch [
      | in-None w ↦ rw (w.host-is, w.result-is)
          (usage_performed g.D.Disk before before disk c.requires.unbound words (sym c.in-Ok.ensures.asked ∙ ap (option_map asked) w.in-None.is) refl)
      | in-Some-TraceStart w ↦ rw (w.host-is, w.result-is)
          (trace_start_performed g.D.Disk before (view g.H.Host w.trace_start-result.new.host) disk c.requires.unbound words w.in-Some-TraceStart.plan.now _
          (asks_for c.in-Ok.ensures.asked w.in-Some-TraceStart.is (rw w.in-Some-TraceStart.is at w.in-Some-TraceStart.field-0-is)) w.trace_start-result.ensures.performs)
      | in-Some-DryRun w ↦ rw (w.host-is, w.result-is)
          (dry_run_performed g.D.Disk before (view g.H.Host w.dry_run-result.new.host) disk c.requires.unbound words w.in-Some-DryRun.plan.now w.in-Some-DryRun.script.now _
          (asks_for c.in-Ok.ensures.asked w.in-Some-DryRun.is (rw w.in-Some-DryRun.is at w.in-Some-DryRun.field-0-is)) w.dry_run-result.ensures.performs)
      | in-Some-Check w ↦ rw (w.host-is, w.result-is)
          (check_performed g.D.Disk before (view g.H.Host w.check-result.new.host) disk c.requires.unbound words w.in-Some-Check.plan.now _
          (asks_for c.in-Ok.ensures.asked w.in-Some-Check.is (rw w.in-Some-Check.is at w.in-Some-Check.field-0-is)) w.check-result.ensures.performs)
      | in-Some-Format w ↦ rw (w.host-is, w.result-is)
          (format_performed g.D.Disk before (view g.H.Host w.format-result.new.host) disk c.requires.unbound words w.in-Some-Format.plan.now _
          (asks_for c.in-Ok.ensures.asked w.in-Some-Format.is (rw w.in-Some-Format.is at w.in-Some-Format.field-0-is)) w.format-result.ensures.performs)
    ]

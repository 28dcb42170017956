use Rattle.std.proofs.Common.{List, ap, sym, subst, ◌∙◌}
use Rattle.px_core.specs.Plan.{tree_of, sites}
use Rattle.px_core.specs.declared.plan.Plan.{Plan}
use Rattle.px_exec.specs.Executive.{Opening}
use Rattle.px_exec.specs.Opening.{GivesNames}
use Rattle.px_output.specs.View.{view}
use Rattle.px_script.specs.declared.todo.Todo.{Todo}
use Rattle.px_run.specs.Finishing.{Finishes}
use Rattle.px_run.specs.Resume.{IsLeft}
use Rattle.px_run.specs.declared.finishing.Telling.TheVariants as tellings
use Rattle.px_run.proofs.Resumed.{not_taken_up, resume_refused, resume_finished}
use Rattle.px_run.proofs.resume.resume.Goals as goal

pub returns-in-Err-clause-resumes : goal.returns-in-Err-clause-resumes
returns-in-Err-clause-resumes g c =
    rw c.into.ensures (not_taken_up g.D.Disk c.args.journal.now _ (view g.H.Host c.args.host.now) c.args.disk c.in-Err.field-0 c.in-Err.ensures.refused)

pub returns-in-Ok-script_left-clause-resumes : goal.returns-in-Ok-script_left-clause-resumes
returns-in-Ok-script_left-clause-resumes g c =
    let before = view g.H.Host c.args.host.now in
    let mid = view g.H.Host c.script_left.new.host in
    let now = view g.H.Host c.finish.new.host in
    let reopened = c.in-Ok.reopened in
    let r = c.in-Ok.ensures.reopened in
    let renamed = c.rename.new.self in
    let renames = c.rename.ensures.renamed in
    let left = c.in-Ok-script_left.left in
    resume_finished g.S.Stepper g.D.Disk c.args.script.now c.args.journal.now c.args.limit c.args.disk renamed
    (c.rename.ensures.kept c.args.journal.now c.args.limit c.args.disk r) before mid now c.in-Ok-script_left.ensures.only
    c.history.result.now left c.finish.result (c.history.ensures ∙ r.opening.now ∙ sym (ap (λ (o : Opening g.row.S.Denot g.row.D.Denot). o.history) renames.opening))
    (subst (λ (plan : Plan). IsLeft (sites (tree_of plan)) c.args.script.now c.history.result.now before mid left) (sym c.rename.ensures.plan) c.in-Ok-script_left.ensures.ok)
    (subst (GivesNames renamed.exec.opening.journal) c.without_names-left.ensures.names renames.gives)
    c.finish.ensures.keeps.read_faults
    (λ text is. subst (λ (threads : List Todo). Finishes g.D.Disk g.S.Stepper tellings.Text text renamed.exec threads mid now c.finish.result)
    c.without_names-left.ensures.threads (c.finish.ensures.finishes text is))

pub returns-clause-resumes : goal.returns-clause-resumes
returns-clause-resumes g c =
    let before = view g.H.Host c.args.host.now in
    let mid = view g.H.Host c.script_left.new.host in
    let reopened = c.in-Ok.reopened in
    let r = c.in-Ok.ensures.reopened in
    resume_refused g.S.Stepper g.D.Disk c.args.script.now c.args.journal.now c.args.limit c.args.disk reopened r before mid mid c.in-Err-script_left.ensures.only
    c.in-Err-script_left.stop c.into_disk.result
    (c.into_disk.ensures ∙ ap (λ j. j.disk) (c.into_parts.ensures.journal ∙ r.opening.untouched)) c.in-Err-script_left.ensures.err

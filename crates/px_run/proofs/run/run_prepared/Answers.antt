use Rattle.std.proofs.Common.{ℕ, List, refl, subst}
use Rattle.px_value.proofs.General.{is_some_at}
use Rattle.px_event.specs.declared.names.ThreadName.{ThreadName}
use Rattle.px_output.specs.View.{view}
use Rattle.px_script.proofs.Remainders.{rest_whole}
use Rattle.px_script.specs.declared.todo.Todo.{Todo}
use Rattle.px_session.specs.Creating.{Creates, IsNotCreated}
use Rattle.px_run.specs.Finishing.{Finishes}
use Rattle.px_run.proofs.Running.{made_runs, not_made_runs}
use Rattle.px_run.proofs.run.run_prepared.Goals as goal

pub returns-in-Ok-clause-runs : goal.returns-in-Ok-clause-runs
returns-in-Ok-clause-runs g c =
    let ready = c.args.prepared in
    let before = view g.H.Host c.args.host.now in
    let now = view g.H.Host c.finish.new.host in
    let exec = c.in-Ok.exec in
    let made : Creates g.D.Disk c.args.journal.now ready.text.items ready.stepper c.args.limit ready.script.names c.args.disk exec =
    subst (λ (names : List ThreadName). Creates g.D.Disk c.args.journal.now ready.text.items ready.stepper c.args.limit names c.args.disk exec) c.without_names-script.ensures.names
    (subst (λ (text : List ℕ). Creates g.D.Disk c.args.journal.now text ready.stepper c.args.limit c.without_names-script.result.1 c.args.disk exec) c.deref.ensures.value c.in-Ok.ensures.created) in
    made_runs g.D.Disk c.args.telling (g.S.Stepper.state ready.stepper).nodes ready.text.items c.args.journal.now c.args.limit ready.script before now c.args.disk
    (rest_whole ready.script.threads c.requires.lines.lines) g.S.Stepper ready.stepper exec c.finish.result refl made
    (subst (λ (threads : List Todo). Finishes g.D.Disk g.S.Stepper c.args.telling ready.text.items exec threads before now c.finish.result)
    c.without_names-script.ensures.threads (c.finish.ensures.finishes ready.text.items made.stands))

pub returns-clause-runs : goal.returns-clause-runs
returns-clause-runs g c =
    let ready = c.args.prepared in
    let before = view g.H.Host c.args.host.now in
    let fault = c.in-Err.field-0 in
    not_made_runs g.D.Disk c.args.telling (g.S.Stepper.state ready.stepper).nodes ready.text.items c.args.journal.now c.args.limit ready.script before before c.args.disk
    (rest_whole ready.script.threads c.requires.lines.lines) fault.why fault.disk c.into.result
    (is_some_at _ _ c.requires.started)
    c.into.ensures
    (subst (λ (names : List ThreadName). IsNotCreated g.D.Disk c.args.journal.now ready.text.items names c.args.disk fault) c.without_names-script.ensures.names
    (subst (λ (text : List ℕ). IsNotCreated g.D.Disk c.args.journal.now text c.without_names-script.result.1 c.args.disk fault) c.deref.ensures.value c.in-Err.ensures.refused))

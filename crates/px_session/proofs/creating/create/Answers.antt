use Rattle.std.proofs.Common.{refl, ap, sym, subst, ◌∙◌}
use Rattle.px_value.proofs.General.{handed_on}
use Rattle.px_journal.specs.declared.fault.CreateWhy.TheVariants.{NoMemory}
use Rattle.px_session.specs.Creating.{IsNotCreated}
use Rattle.px_session.proofs.Created.{unattached, uncreated, created, why_refused, made_in_vain}
use Rattle.px_session.proofs.creating.create.Goals as goal

pub returns-in-Err-clause-refused : goal.returns-in-Err-clause-refused
returns-in-Err-clause-refused g c = unattached g.D.Disk c.args.name.now c.args.text.now c.args.names c.args.disk c.in-Err.disk c.in-Err.ensures.failed

pub returns-in_err-journal-clause-refused : goal.returns-in_err-journal-clause-refused
returns-in_err-journal-clause-refused g c =
    let fault = c.in_err-journal.field-0.0 in
    let told = c.in_err-journal.ensures in
    let name = c.args.name.now in
    let text = c.args.text.now in
    let names = c.args.names in
    let old = c.args.disk in
    let mid = c.in-Ok.disk in
    handed_on (IsNotCreated g.D.Disk name text names old) fault c.from_residual.result c.from_residual.ensures.1
    (uncreated g.D.Disk name text names old mid c.in-Ok.ensures.attached fault.disk told.goes told.old_or_new fault.why
    (why_refused g.D.Disk name text names old mid c.in-Ok.ensures.attached fault.disk told.goes told.old_or_new fault refl
    told.exists told.no_memory told.goes.faults.rose) told.untouched told.goes.faults)

pub returns-in-Ok-open-clause-created : goal.returns-in-Ok-open-clause-created
returns-in-Ok-open-clause-created g c =
    let journal = c.in_ok-journal.journal in
    let told = c.in_ok-journal.ensures in
    created g.D.Disk c.args.name.now c.args.text.now c.args.names c.args.disk c.in-Ok.disk c.in-Ok.ensures.attached journal.disk told.goes told.old_or_new
    g.S.Stepper c.args.stepper c.args.limit journal c.new.result.items c.in-Ok-open.exec (λ failed. failed) refl told.made told.version told.gives told.only_nothing c.new.ensures.items
    c.in-Ok-open.ensures.opens

pub returns-in-Err-open-clause-refused : goal.returns-in-Err-open-clause-refused
returns-in-Err-open-clause-refused g c =
    let journal = c.in_ok-journal.journal in
    let told = c.in_ok-journal.ensures in
    let fault = c.in-Err-open.ensures.refused in
    let here = c.into_disk.ensures ∙ ap (λ j. j.disk) fault.handed_back in
    subst (λ d. IsNotCreated g.D.Disk c.args.name.now c.args.text.now c.args.names c.args.disk (record { disk = d; why = NoMemory })) (sym here)
    (made_in_vain g.D.Disk c.args.name.now c.args.text.now c.args.names c.args.disk c.in-Ok.disk c.in-Ok.ensures.attached journal.disk told.goes told.old_or_new
    journal (λ failed. failed) refl told.made told.version told.only_nothing)

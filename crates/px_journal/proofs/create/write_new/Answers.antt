use Rattle.std.proofs.Common.{false, refl, ◌∙◌}
use Rattle.std.proofs.lemmas.Bool.{both_ways}
use Rattle.std.proofs.result.Match.{err_is}
use Rattle.px_journal.specs.declared.fault.CreateWhy.TheVariants as whys
use Rattle.px_journal.proofs.Creating.{told_after, old_or_new}
use Rattle.px_journal.proofs.Going.{create_memory_no_fault, goes_none, goes_right, goes_then, goes_told, handed_from, handed_to, ok_no_err, other_fault}
use Rattle.px_journal.proofs.create.write_new.Goals as goal

pub returns-in_err-open_behind-clause-old_or_new : goal.returns-in_err-open_behind-clause-old_or_new
returns-in_err-open_behind-clause-old_or_new g c = λ told is.
    let middle = told_after _ _ told c.close_master_gate.ensures.goes.tells is in
    old_or_new c.args.version g.D.Disk.images c.args.plan_text.now _ _ _ (c.close_master_gate.ensures.old_or_nothing told is)
    (c.open_behind.ensures.nothing_or_new c.args.version c.args.plan_text.now c.requires.short (c.deref.ensures.value ∙ c.in_ok-content.ensures) (middle.0) (middle.1))

pub returns-clause-old_or_new : goal.returns-clause-old_or_new
returns-clause-old_or_new g c = λ told is.
    let middle = told_after _ _ told c.close_master_gate.ensures.goes.tells is in
    old_or_new c.args.version g.D.Disk.images c.args.plan_text.now _ _ _ (c.close_master_gate.ensures.old_or_nothing told is)
    (c.open_behind.ensures.nothing_or_new c.args.version c.args.plan_text.now c.requires.short (c.deref.ensures.value ∙ c.in_ok-content.ensures) (middle.0) (middle.1))

pub returns-clause-stands : goal.returns-clause-stands
returns-clause-stands g c =
    c.in_ok-open_behind.ensures.stands c.args.version c.args.plan_text.now c.requires.short (c.deref.ensures.value ∙ c.in_ok-content.ensures)

pub returns-in_err-buffer-clause-goes : goal.returns-in_err-buffer-clause-goes
returns-in_err-buffer-clause-goes g c = goes_none g.D.Disk _ (other_fault c.from_residual.ensures.1 create_memory_no_fault)

pub returns-in_err-content-clause-goes : goal.returns-in_err-content-clause-goes
returns-in_err-content-clause-goes g c = goes_none g.D.Disk _ (other_fault c.from_residual-in_err-content.ensures.1 create_memory_no_fault)

pub returns-in_err-close_master_gate-clause-goes : goal.returns-in_err-close_master_gate-clause-goes
returns-in_err-close_master_gate-clause-goes g c =
    goes_told g.D.Disk c.in_err-close_master_gate.ensures.goes (handed_to c.from_residual-in_err-close_master_gate.ensures.1)
    (handed_from c.from_residual-in_err-close_master_gate.ensures.1)

pub returns-in_err-open_behind-clause-goes : goal.returns-in_err-open_behind-clause-goes
returns-in_err-open_behind-clause-goes g c =
    goes_then g.D.Disk c.in_ok-close_master_gate.ensures.goes ok_no_err
    (goes_told g.D.Disk c.in_err-open_behind.ensures.goes (λ failed. err_is _ whys.DiskFault c.from_residual-in_err-open_behind.ensures.1) (λ failed. refl))

pub returns-clause-goes : goal.returns-clause-goes
returns-clause-goes g c =
    goes_then g.D.Disk c.in_ok-close_master_gate.ensures.goes ok_no_err
    (goes_right g.D.Disk c.in_ok-open_behind.ensures.goes (both_ways false refl) ok_no_err)

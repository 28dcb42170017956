use Rattle.std.proofs.Common.{Err, ◌∙◌, ap, subst, arith}
use Rattle.std.specs.Prelude.{IsErrOf}
use Rattle.std.proofs.result.Match.{err_is}
use Rattle.px_ports.specs.Disk.{Told}
use Rattle.px_journal.specs.Journal.{WereRead}
use Rattle.px_journal.specs.declared.fault.RecoverWhy.TheVariants as whys
use Rattle.px_journal.proofs.Creating.{not_nothing}
use Rattle.px_journal.proofs.Going.{fault_came, handed_to, handed_from, ok_no_err, reads_by_call, reads_by_fault, reads_right, reads_then, reads_told}
use Rattle.px_journal.proofs.Undamaged.{open_not_closed}
use Rattle.px_journal.proofs.recover.read_stable.Goals as goal

no_journal_no_fault : {T : Type 0} → IsErrOf {T = T} (Err whys.NoJournal) whys.DiskFault → ⊥
no_journal_no_fault same = cc

pub returns-in_err-version-clause-damaged : goal.returns-in_err-version-clause-damaged
returns-in_err-version-clause-damaged g c = λ at refused told is.
    let why = fault_came c.from_residual-in_err-version.result (whys.Damaged at) c.in_err-version.field-0.0 c.from_residual-in_err-version.ensures.1 refused in
    let found = c.in_err-version.ensures.damaged at (ap Err why) told (c.len.ensures.reads.bytes ∙ is) in
    (not_nothing told (omega (arith, c.in_ok-size.ensures.length told is, c.if-size-lt-TEXT_PLACE.false)) (open_not_closed told (found.0)), found.1)

pub returns-in_err-history-clause-damaged : goal.returns-in_err-history-clause-damaged
returns-in_err-history-clause-damaged g c = λ at refused told is.
    let why = fault_came c.from_residual-in_err-history.result (whys.Damaged at) c.in_err-history.field-0.0 c.from_residual-in_err-history.ensures.1 refused in
    let opened = c.in_ok-version.ensures.opens told (c.len.ensures.reads.bytes ∙ is) in (
      not_nothing told (omega (arith, c.in_ok-size.ensures.length told is, c.if-size-lt-TEXT_PLACE.false)) (open_not_closed told (opened.0)),
      c.in_err-history.ensures.damaged at (ap Err why) told (c.read_text.ensures.reads.only.bytes ∙ c.read_heading.ensures.reads.only.bytes ∙ c.len.ensures.reads.bytes ∙ is),
    )

pub returns-in_err-version-clause-reads : goal.returns-in_err-version-clause-reads
returns-in_err-version-clause-reads g c =
    let size = c.in_ok-size.ensures in
    reads_told g.D.Disk (reads_then g.D.Disk (reads_by_call g.D.Disk _ size.reads size.unwritten size.stays size.cause) (λ failed. failed) c.in_err-version.ensures.reads)
    (handed_to c.from_residual-in_err-version.ensures.1) (handed_from c.from_residual-in_err-version.ensures.1)

pub returns-in_err-plan-clause-reads : goal.returns-in_err-plan-clause-reads
returns-in_err-plan-clause-reads g c =
    let size = c.in_ok-size.ensures in
    let counted = reads_then g.D.Disk (reads_by_call g.D.Disk _ size.reads size.unwritten size.stays size.cause) (λ failed. failed) c.in_ok-version.ensures.reads in
    reads_told g.D.Disk (reads_then g.D.Disk counted ok_no_err c.in_err-plan.ensures.reads)
    (handed_to c.from_residual-in_err-plan.ensures.1) (handed_from c.from_residual-in_err-plan.ensures.1)

pub returns-in_err-history-clause-reads : goal.returns-in_err-history-clause-reads
returns-in_err-history-clause-reads g c =
    let size = c.in_ok-size.ensures in
    let counted = reads_then g.D.Disk (reads_by_call g.D.Disk _ size.reads size.unwritten size.stays size.cause) (λ failed. failed) c.in_ok-version.ensures.reads in
    let read = reads_then g.D.Disk counted ok_no_err c.in_ok-plan.ensures.reads in
    reads_told g.D.Disk (reads_then g.D.Disk read ok_no_err c.in_err-history.ensures.reads)
    (handed_to c.from_residual-in_err-history.ensures.1) (handed_from c.from_residual-in_err-history.ensures.1)

pub returns-clause-reads : goal.returns-clause-reads
returns-clause-reads g c =
    let size = c.in_ok-size.ensures in
    let counted = reads_then g.D.Disk (reads_by_call g.D.Disk _ size.reads size.unwritten size.stays size.cause) (λ failed. failed) c.in_ok-version.ensures.reads in
    let read = reads_then g.D.Disk counted ok_no_err c.in_ok-plan.ensures.reads in
    reads_right g.D.Disk (reads_then g.D.Disk read ok_no_err c.in_ok-history.ensures.reads) ok_no_err ok_no_err

pub returns-in_err-size-clause-reads : goal.returns-in_err-size-clause-reads
returns-in_err-size-clause-reads g c =
    let size = c.in_err-size.ensures in
    reads_by_fault g.D.Disk size.reads size.unwritten size.stays size.cause (err_is _ whys.DiskFault c.from_residual.ensures.1)

pub returns-then-size-lt-TEXT_PLACE-clause-reads : goal.returns-then-size-lt-TEXT_PLACE-clause-reads
returns-then-size-lt-TEXT_PLACE-clause-reads g c =
    let size = c.in_ok-size.ensures in
    reads_right g.D.Disk (reads_by_call g.D.Disk _ size.reads size.unwritten size.stays size.cause) (λ failed. failed) no_journal_no_fault

pub returns-clause-read : goal.returns-clause-read
returns-clause-read g c =
    let history = c.in_ok-history.history in
    let read = rw c.deref.ensures.value at c.in_ok-history.ensures.read in
    subst
    (λ (content : Told). WereRead content c.in_ok-version.version c.in_ok-plan.plan.items history.entries.items history.names.items history.gate)
    (c.read_text.ensures.reads.only.bytes ∙ c.read_heading.ensures.reads.only.bytes ∙ c.len.ensures.reads.bytes) read

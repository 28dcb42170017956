use Rattle.std.proofs.Common.{Err, ◌∙◌, ap, subst}
use Rattle.std.proofs.result.Match.{err_is}
use Rattle.px_ports.specs.Disk.{Told}
use Rattle.px_journal.specs.Journal.{WereRead}
use Rattle.px_journal.specs.declared.fault.RecoverWhy.TheVariants as whys
use Rattle.px_journal.proofs.Going.{fault_came, goes_by_reads, goes_by_sync, goes_right, goes_then, handed_from, handed_to, ok_no_err, other_fault, reads_right, reads_told, recover_memory_no_fault, rises_failed, rises_right, unwritten_then}
use Rattle.px_journal.proofs.Moments.{synced_on}
use Rattle.px_journal.proofs.recover.read_journal.Goals as goal

pub returns-in_err-version-clause-damaged : goal.returns-in_err-version-clause-damaged
returns-in_err-version-clause-damaged g c = λ at refused told is.
    let why = fault_came c.from_residual-in_err-version.result (whys.Damaged at) c.in_err-version.field-0.0 c.from_residual-in_err-version.ensures.1 refused in
    c.in_err-version.ensures.damaged at (ap Err why) told (c.in_ok-sync.ensures.syncs.bytes ∙ is)

pub returns-in_err-version-clause-writes_nothing : goal.returns-in_err-version-clause-writes_nothing
returns-in_err-version-clause-writes_nothing g c =
    unwritten_then g.D.Disk c.sync.ensures.unwritten c.sync.ensures.syncs.elapses c.read_stable.ensures.reads.unwritten c.read_stable.ensures.reads.only.elapses

pub returns-clause-writes_nothing : goal.returns-clause-writes_nothing
returns-clause-writes_nothing g c =
    unwritten_then g.D.Disk c.sync.ensures.unwritten c.sync.ensures.syncs.elapses c.read_stable.ensures.reads.unwritten c.read_stable.ensures.reads.only.elapses

pub returns-in_err-version-clause-synced : goal.returns-in_err-version-clause-synced
returns-in_err-version-clause-synced g c = λ other. synced_on g.D.Disk.images _ _ _ _ _ _ c.in_ok-sync.ensures.syncs c.read_stable.ensures.reads.only

pub returns-clause-synced : goal.returns-clause-synced
returns-clause-synced g c = λ other. synced_on g.D.Disk.images _ _ _ _ _ _ c.in_ok-sync.ensures.syncs c.read_stable.ensures.reads.only

pub returns-clause-read : goal.returns-clause-read
returns-clause-read g c =
    let read = c.in_ok-version in
    subst (λ (content : Told). WereRead content read.version read.plan.items read.history.entries.items read.history.names.items read.history.gate) c.in_ok-sync.ensures.syncs.bytes read.ensures.read

pub returns-in_err-sync-clause-goes : goal.returns-in_err-sync-clause-goes
returns-in_err-sync-clause-goes g c =
    let sync = c.in_err-sync.ensures in
    goes_by_sync g.D.Disk sync.syncs sync.stays (rises_failed sync.cause (err_is _ whys.DiskFault c.from_residual.ensures.1))

pub returns-in_err-buffer-clause-goes : goal.returns-in_err-buffer-clause-goes
returns-in_err-buffer-clause-goes g c =
    let sync = c.in_ok-sync.ensures in
    goes_right g.D.Disk (goes_by_sync g.D.Disk sync.syncs sync.stays (rises_right sync.cause)) (λ failed. failed)
    (other_fault c.from_residual-in_err-buffer.ensures.1 recover_memory_no_fault)

pub returns-in_err-version-clause-goes : goal.returns-in_err-version-clause-goes
returns-in_err-version-clause-goes g c =
    let sync = c.in_ok-sync.ensures in
    goes_then g.D.Disk (goes_by_sync g.D.Disk sync.syncs sync.stays (rises_right sync.cause)) (λ failed. failed)
    (goes_by_reads g.D.Disk (reads_told g.D.Disk c.in_err-version.ensures.reads (handed_to c.from_residual-in_err-version.ensures.1)
    (handed_from c.from_residual-in_err-version.ensures.1)))

pub returns-clause-goes : goal.returns-clause-goes
returns-clause-goes g c =
    let sync = c.in_ok-sync.ensures in
    goes_then g.D.Disk (goes_by_sync g.D.Disk sync.syncs sync.stays (rises_right sync.cause)) (λ failed. failed)
    (goes_by_reads g.D.Disk (reads_right g.D.Disk c.in_ok-version.ensures.reads ok_no_err ok_no_err))

use Rattle.std.proofs.result.Match.{err_is}
use Rattle.px_journal.specs.declared.fault.RecoverWhy.TheVariants as whys
use Rattle.px_journal.proofs.Going.{ok_no_err, other_fault, reads_by_call, reads_by_fault, reads_nothing, reads_right, recover_memory_no_fault}
use Rattle.px_journal.proofs.heading.read_text.Goals as goal

pub returns-in_err-text-clause-reads : goal.returns-in_err-text-clause-reads
returns-in_err-text-clause-reads g c = reads_nothing g.D.Disk _ (other_fault c.from_residual.ensures.1 recover_memory_no_fault)

pub returns-in_err-read_at-clause-reads : goal.returns-in_err-read_at-clause-reads
returns-in_err-read_at-clause-reads g c =
    let read = c.in_err-read_at.ensures in
    reads_by_fault g.D.Disk read.reads read.unwritten read.stays read.cause (err_is _ whys.DiskFault c.from_residual-in_err-read_at.ensures.1)

pub returns-clause-reads : goal.returns-clause-reads
returns-clause-reads g c =
    let read = c.in_ok-read_at.ensures in
    reads_right g.D.Disk (reads_by_call g.D.Disk _ read.reads read.unwritten read.stays read.cause) (λ failed. failed) ok_no_err

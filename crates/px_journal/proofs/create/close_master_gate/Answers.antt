use Rattle.std.proofs.Common.{◌≤◌, false, Err, length, refl, sym, ◌∙◌, arith}
use Rattle.std.specs.Prelude.{IsErrOf}
use Rattle.std.proofs.lemmas.Bool.{both_ways}
use Rattle.std.proofs.result.Match.{err_is}
use Rattle.px_ports.specs.Moment.{Stays}
use Rattle.px_journal.specs.Layout.{is_nothing}
use Rattle.px_journal.specs.declared.fault.CreateWhy.TheVariants as whys
use Rattle.px_journal.proofs.Creating.{closed_nothing, not_nothing, gate_read, same_leaves, short_leaves}
use Rattle.px_journal.proofs.Going.{goes_by_reads, goes_by_sync, goes_right, goes_then, goes_told, ok_no_err, reads_by_call, reads_by_fault, reads_then, rises_failed, rises_right, unwritten_then}
use Rattle.px_journal.proofs.Reading.{front_open, front_closed}
use Rattle.px_journal.proofs.Undamaged.{open_not_closed}
use Rattle.px_journal.proofs.Moments.{elapses_on}
use Rattle.px_journal.proofs.create.close_master_gate.Goals as goal

exists_not_fault : {T : Type 0} → IsErrOf {T = T} (Err whys.Exists) whys.DiskFault → ⊥
exists_not_fault same = cc

pub returns-in_err-len-clause-old_or_nothing : goal.returns-in_err-len-clause-old_or_nothing
returns-in_err-len-clause-old_or_nothing g c = λ told is. same_leaves g.D.Disk.images _ _ c.len.ensures.reads.elapses

-- ---- a short file

pub returns-in_err-put-clause-old_or_nothing : goal.returns-in_err-put-clause-old_or_nothing
returns-in_err-put-clause-old_or_nothing g c = λ told is.
    short_leaves g.D.Disk.images _ told _ _ (omega (arith, c.in_ok-len.ensures.length told is, c.if-branch-lt-TEXT_PLACE.true))
    (g.met.D.Disk.none_is_longer c.len.new.self told (c.len.ensures.reads.bytes ∙ is)) c.len.ensures.reads.elapses c.put.ensures.puts.elapses

pub returns-then-branch-lt-TEXT_PLACE-clause-old_or_nothing : goal.returns-then-branch-lt-TEXT_PLACE-clause-old_or_nothing
returns-then-branch-lt-TEXT_PLACE-clause-old_or_nothing g c = λ told is.
    short_leaves g.D.Disk.images _ told _ _ (omega (arith, c.in_ok-len.ensures.length told is, c.if-branch-lt-TEXT_PLACE.true))
    (g.met.D.Disk.none_is_longer c.len.new.self told (c.len.ensures.reads.bytes ∙ is)) c.len.ensures.reads.elapses c.put.ensures.puts.elapses

-- ---- the first byte is read

pub returns-in_err-read_at-clause-untouched : goal.returns-in_err-read_at-clause-untouched
returns-in_err-read_at-clause-untouched g c = λ told is other. record {
  content = c.read_at.ensures.reads.bytes ∙ c.len.ensures.reads.bytes;
  unwritten = unwritten_then g.D.Disk c.len.ensures.unwritten c.len.ensures.reads.elapses c.read_at.ensures.unwritten c.read_at.ensures.reads.elapses;
}

pub returns-in_err-read_at-clause-old_or_nothing : goal.returns-in_err-read_at-clause-old_or_nothing
returns-in_err-read_at-clause-old_or_nothing g c = λ told is.
    same_leaves g.D.Disk.images _ _ (elapses_on g.D.Disk.images Stays _ _ _ c.len.ensures.reads.elapses c.read_at.ensures.reads.elapses)

pub returns-then-gate-ne-CLOSED-clause-exists : goal.returns-then-gate-ne-CLOSED-clause-exists
returns-then-gate-ne-CLOSED-clause-exists g c = λ refused told is.
    let long : 13 ≤ length told = omega (arith, c.in_ok-len.ensures.length told is, c.if-branch-lt-TEXT_PLACE.false) in
    let gate = gate_read told _ long (c.in_ok-read_at.ensures.read told (c.len.ensures.reads.bytes ∙ is)) in
    not_nothing told long (open_not_closed told (front_open told _ 1 gate.0 gate.1 c.if-gate-ne-CLOSED.true))

pub returns-then-gate-ne-CLOSED-clause-untouched : goal.returns-then-gate-ne-CLOSED-clause-untouched
returns-then-gate-ne-CLOSED-clause-untouched g c = λ told is other. record {
  content = c.read_at.ensures.reads.bytes ∙ c.len.ensures.reads.bytes;
  unwritten = unwritten_then g.D.Disk c.len.ensures.unwritten c.len.ensures.reads.elapses c.read_at.ensures.unwritten c.read_at.ensures.reads.elapses;
}

pub returns-then-gate-ne-CLOSED-clause-old_or_nothing : goal.returns-then-gate-ne-CLOSED-clause-old_or_nothing
returns-then-gate-ne-CLOSED-clause-old_or_nothing g c = λ told is.
    same_leaves g.D.Disk.images _ _ (elapses_on g.D.Disk.images Stays _ _ _ c.len.ensures.reads.elapses c.read_at.ensures.reads.elapses)

-- ---- and is 0

pub returns-clause-only_nothing : goal.returns-clause-only_nothing
returns-clause-only_nothing g c = λ told is.
    let gate = gate_read told _ (omega (arith, c.in_ok-len.ensures.length told is, c.if-branch-lt-TEXT_PLACE.false))
    (c.in_ok-read_at.ensures.read told (c.len.ensures.reads.bytes ∙ is)) in
    closed_nothing told (front_closed told _ 1 gate.0 gate.1 c.if-gate-ne-CLOSED.false)

pub returns-in_err-sync-clause-untouched : goal.returns-in_err-sync-clause-untouched
returns-in_err-sync-clause-untouched g c = λ told is other.
    let gate = gate_read told _ (omega (arith, c.in_ok-len.ensures.length told is, c.if-branch-lt-TEXT_PLACE.false))
    (c.in_ok-read_at.ensures.read told (c.len.ensures.reads.bytes ∙ is)) in
    let closed = closed_nothing told (front_closed told _ 1 gate.0 gate.1 c.if-gate-ne-CLOSED.false) in
    absurd (both_ways (is_nothing told) other closed)

pub returns-in_err-sync-clause-old_or_nothing : goal.returns-in_err-sync-clause-old_or_nothing
returns-in_err-sync-clause-old_or_nothing g c = λ told is.
    same_leaves g.D.Disk.images _ _
    (elapses_on g.D.Disk.images Stays _ _ _ (elapses_on g.D.Disk.images Stays _ _ _ c.len.ensures.reads.elapses c.read_at.ensures.reads.elapses) c.sync.ensures.syncs.elapses)

pub returns-clause-nothing : goal.returns-clause-nothing
returns-clause-nothing g c = λ told is.
    let before = sym (c.in_ok-sync.ensures.syncs.bytes ∙ c.read_at.ensures.reads.bytes ∙ c.len.ensures.reads.bytes) ∙ is in
    let gate = gate_read told _ (omega (arith, c.in_ok-len.ensures.length told before, c.if-branch-lt-TEXT_PLACE.false))
    (c.in_ok-read_at.ensures.read told (c.len.ensures.reads.bytes ∙ before)) in
    front_closed told _ 1 gate.0 gate.1 c.if-gate-ne-CLOSED.false

pub returns-clause-untouched : goal.returns-clause-untouched
returns-clause-untouched g c = λ told is other. absurd (both_ways (is_nothing told) other (returns-clause-only_nothing g c told is))

pub returns-clause-old_or_nothing : goal.returns-clause-old_or_nothing
returns-clause-old_or_nothing g c = λ told is.
    same_leaves g.D.Disk.images _ _
    (elapses_on g.D.Disk.images Stays _ _ _ (elapses_on g.D.Disk.images Stays _ _ _ c.len.ensures.reads.elapses c.read_at.ensures.reads.elapses) c.sync.ensures.syncs.elapses)

pub returns-in_err-len-clause-goes : goal.returns-in_err-len-clause-goes
returns-in_err-len-clause-goes g c =
    let len = c.in_err-len.ensures in
    goes_by_reads g.D.Disk (reads_by_fault g.D.Disk len.reads len.unwritten len.stays len.cause (err_is _ whys.DiskFault c.from_residual.ensures.1))

pub returns-in_err-put-clause-goes : goal.returns-in_err-put-clause-goes
returns-in_err-put-clause-goes g c =
    let len = c.in_ok-len.ensures in
    goes_then g.D.Disk (goes_by_reads g.D.Disk (reads_by_call g.D.Disk _ len.reads len.unwritten len.stays len.cause)) (λ failed. failed)
    (goes_told g.D.Disk c.in_err-put.ensures.goes (λ failed. err_is _ whys.DiskFault c.from_residual-in_err-put.ensures.1) (λ failed. refl))

pub returns-then-branch-lt-TEXT_PLACE-clause-goes : goal.returns-then-branch-lt-TEXT_PLACE-clause-goes
returns-then-branch-lt-TEXT_PLACE-clause-goes g c =
    let len = c.in_ok-len.ensures in
    goes_then g.D.Disk (goes_by_reads g.D.Disk (reads_by_call g.D.Disk _ len.reads len.unwritten len.stays len.cause)) (λ failed. failed)
    (goes_right g.D.Disk c.in_ok-put.ensures.goes (both_ways false refl) ok_no_err)

pub returns-in_err-read_at-clause-goes : goal.returns-in_err-read_at-clause-goes
returns-in_err-read_at-clause-goes g c =
    let len = c.in_ok-len.ensures in
    let read = c.in_err-read_at.ensures in
    goes_by_reads g.D.Disk (reads_then g.D.Disk (reads_by_call g.D.Disk _ len.reads len.unwritten len.stays len.cause) (λ failed. failed)
    (reads_by_fault g.D.Disk read.reads read.unwritten read.stays read.cause (err_is _ whys.DiskFault c.from_residual-in_err-read_at.ensures.1)))

pub returns-then-gate-ne-CLOSED-clause-goes : goal.returns-then-gate-ne-CLOSED-clause-goes
returns-then-gate-ne-CLOSED-clause-goes g c =
    let len = c.in_ok-len.ensures in
    let read = c.in_ok-read_at.ensures in
    goes_right g.D.Disk (goes_by_reads g.D.Disk (reads_then g.D.Disk (reads_by_call g.D.Disk _ len.reads len.unwritten len.stays len.cause) (λ failed. failed) (reads_by_call g.D.Disk _ read.reads read.unwritten read.stays read.cause))) (λ failed. failed) exists_not_fault

pub returns-in_err-sync-clause-goes : goal.returns-in_err-sync-clause-goes
returns-in_err-sync-clause-goes g c =
    let len = c.in_ok-len.ensures in
    let read = c.in_ok-read_at.ensures in
    let sync = c.in_err-sync.ensures in
    goes_then g.D.Disk (goes_by_reads g.D.Disk (reads_then g.D.Disk (reads_by_call g.D.Disk _ len.reads len.unwritten len.stays len.cause) (λ failed. failed) (reads_by_call g.D.Disk _ read.reads read.unwritten read.stays read.cause))) (λ failed. failed)
    (goes_by_sync g.D.Disk sync.syncs sync.stays (rises_failed sync.cause (err_is _ whys.DiskFault c.from_residual-in_err-sync.ensures.1)))

pub returns-clause-goes : goal.returns-clause-goes
returns-clause-goes g c =
    let len = c.in_ok-len.ensures in
    let read = c.in_ok-read_at.ensures in
    let sync = c.in_ok-sync.ensures in
    goes_right g.D.Disk (goes_then g.D.Disk (goes_by_reads g.D.Disk (reads_then g.D.Disk (reads_by_call g.D.Disk _ len.reads len.unwritten len.stays len.cause) (λ failed. failed) (reads_by_call g.D.Disk _ read.reads read.unwritten read.stays read.cause))) (λ failed. failed)
    (goes_by_sync g.D.Disk sync.syncs sync.stays (rises_right sync.cause))) (λ failed. failed) ok_no_err

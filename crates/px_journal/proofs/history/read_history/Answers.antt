use Rattle.std.proofs.Common.{◌≡◌, [], ◌∷◌, Err, length, sym, ◌∙◌, ap, arith, length-append}
use Rattle.px_journal.specs.declared.fault.RecoverWhy.TheVariants as whys
use Rattle.px_journal.proofs.Going.{fault_came, handed_to, handed_from, ok_no_err, other_fault, reads_right, reads_then, reads_told, recover_memory_no_fault}
use Rattle.px_journal.proofs.Histories.{entries_count}
use Rattle.px_journal.proofs.Walking.{read_next, read_both, read_damaged, read_nothing, full_history, room_in_history}
use Rattle.px_journal.proofs.Windows.{shows_nothing}
use Rattle.px_journal.proofs.history.read_history.Goals as goal

pub loop-window-init : goal.loop-window-init
loop-window-init g c = (
  record {
    named = [];
    entries_are = sym c.new-entries.ensures.items;
    names_are = sym c.new-names.ensures.items;
    read = read_nothing g.D.Disk c.args.disk.now c.args.version c.args.plan.now c.args.size c.requires.within c.requires.front;
  },
  λ told is. shows_nothing c.in_ok-window.window told c.in_ok-window.ensures.1,
  omega (arith, c.in_ok-window.ensures.0, ap length c.in_ok-window.ensures.1),
)

pub returns-in_err-named-clause-reads : goal.returns-in_err-named-clause-reads
returns-in_err-named-clause-reads g c =
    reads_told g.D.Disk (reads_then g.D.Disk (c.loop-window.invariant.0).read.reads (λ failed. failed) c.in_err-named.ensures.reads)
    (handed_to c.from_residual-in_err-named.ensures.1) (handed_from c.from_residual-in_err-named.ensures.1)

pub returns-in_err-push-in-Some-clause-reads : goal.returns-in_err-push-in-Some-clause-reads
returns-in_err-push-in-Some-clause-reads g c =
    reads_right g.D.Disk (reads_then g.D.Disk (c.loop-window.invariant.0).read.reads (λ failed. failed) c.in_ok-named.ensures.reads)
    ok_no_err (other_fault c.from_residual-in_err-push-in-Some.ensures.1 recover_memory_no_fault)

pub returns-in_err-push-in-Some-2-clause-reads : goal.returns-in_err-push-in-Some-2-clause-reads
returns-in_err-push-in-Some-2-clause-reads g c =
    reads_right g.D.Disk (reads_then g.D.Disk (c.loop-window.invariant.0).read.reads (λ failed. failed) c.in_ok-named.ensures.reads)
    ok_no_err (other_fault c.from_residual-in_err-push-in-Some-2.ensures.1 recover_memory_no_fault)

pub returns-in-None-clause-reads : goal.returns-in-None-clause-reads
returns-in-None-clause-reads g c =
    reads_right g.D.Disk (reads_then g.D.Disk (c.loop-window.invariant.0).read.reads (λ failed. failed) c.in_ok-named.ensures.reads)
    ok_no_err ok_no_err

pub returns-in_err-named-clause-damaged : goal.returns-in_err-named-clause-damaged
returns-in_err-named-clause-damaged g c = λ at refused.
    let both = c.loop-window.invariant.0 in
    let count : c.len.result ≡ length both.named = omega (arith, c.len.ensures, c.loop-window.entries.ok.0, entries_count both.named _ both.entries_are) in
    let why = fault_came c.from_residual-in_err-named.result (whys.Damaged at) c.in_err-named.field-0.0 c.from_residual-in_err-named.ensures.1 refused in
    read_damaged g.D.Disk c.args.disk.now _ c.args.version c.args.plan.now c.args.size both.named c.loop-window.gate both.read at _
    (λ full. sym count ∙ full_history _ full) (λ room. omega (arith, count, room_in_history _ (omega (arith, count, both.read.few)) room))
    (c.in_err-named.ensures.damaged at (ap Err why))

pub loop-window-smaller : goal.loop-window-smaller
loop-window-smaller g c =
    let both = c.loop-window.invariant.0 in
    let entries = entries_count both.named _ both.entries_are in
    let count : c.len.result ≡ length both.named = omega (arith, c.len.ensures, c.loop-window.entries.ok.0, entries) in
    let found = rw c.in-Some.is at c.in_ok-named.ensures.found in
    omega (
      arith,
      count,
      entries,
      room_in_history _ (omega (arith, count, both.read.few)) (found.1),
      ap length c.in_ok-push-in-Some.ensures.items,
      length-append c.loop-window.entries.items (c.in-Some.named.entry ∷ []),
    )

pub loop-window-preserved : goal.loop-window-preserved
loop-window-preserved g c =
    let both = c.loop-window.invariant.0 in
    let count : c.len.result ≡ length both.named = omega (arith, c.len.ensures, c.loop-window.entries.ok.0, entries_count both.named _ both.entries_are) in
    let found = rw c.in-Some.is at c.in_ok-named.ensures.found in
    let opens = rw c.in-Some.is at c.in_ok-named.ensures.opens in
    let named = c.in-Some.named in
    let next = read_next g.D.Disk c.args.disk.now _ c.args.version c.args.plan.now c.args.size both.named c.loop-window.gate both.read
    c.next_record.new.disk named c.in-Some.next (found.0) (found.2) (found.3)
    (omega (arith, count, room_in_history _ (omega (arith, count, both.read.few)) (found.1))) opens
    (reads_right g.D.Disk c.in_ok-named.ensures.reads ok_no_err (λ failed. failed)) in (
      rw (c.in_ok-push-in-Some.ensures.items, c.in_ok-push-in-Some-2.ensures.items)
          (read_both g.D.Disk c.args.disk.now _ c.next_record.new.disk c.args.version c.args.plan.now c.args.size _ _ c.loop-window.gate c.in-Some.next named both next),
      λ told is. c.in_ok-named.ensures.shows told (both.read.reads.only.bytes ∙ is),
      c.in_ok-named.ensures.inside,
    )

use Rattle.std.proofs.Common.{◌≤◌, ◌-◌, ℕ, false, inl, inr, length, drop, refl, ap, Err, arith}
use Rattle.std.specs.Prelude.{IsErrOf}
use Rattle.std.proofs.lemmas.Bool.{both_ways}
use Rattle.std.proofs.lemmas.List.{length-drop}
use Rattle.std.proofs.result.Match.{err_is}
use Rattle.px_journal.specs.declared.fault.RecoverWhy.TheVariants as whys
use Rattle.px_journal.proofs.Going.{ok_no_err, reads_right, reads_told}
use Rattle.px_journal.proofs.Reading.{front_open, front_opens, front_closed, front_cut, front_no_body, damaged_at}
use Rattle.px_journal.proofs.Windows.{front_shown}
use Rattle.px_journal.proofs.record.next_record.Goals as goal

-- neither damage nor want of memory is a fault of the disk
damage_no_fault : {T : Type 0} (at : ℕ) → IsErrOf {T = T} (Err (whys.Damaged at)) whys.DiskFault → ⊥
damage_no_fault at same = cc

memory_no_fault : {T : Type 0} → IsErrOf {T = T} (Err whys.NoMemory) whys.DiskFault → ⊥
memory_no_fault same = cc

pub returns-in-Ok-clause-opens : goal.returns-in-Ok-clause-opens
returns-in-Ok-clause-opens g c = λ told is.
    let reached = c.in_ok-reach.ensures in
    let front_is = front_shown told _ _ _ c.args.gate reached.reaches (omega (arith, reached.covers)) (reached.shows told is) c.from-front.ensures in
    front_opens (drop c.args.gate told) _ _ front_is c.args.version c.in-Ok.named c.if-front-eq-CLOSED.false c.in-Ok.ensures.content

pub returns-in-Err-NoEntry-clause-damaged : goal.returns-in-Err-NoEntry-clause-damaged
returns-in-Err-NoEntry-clause-damaged g c = λ at refused told is.
    let reached = c.in_ok-reach.ensures in
    let front_is = front_shown told _ _ _ c.args.gate reached.reaches (omega (arith, reached.covers)) (reached.shows told is) c.from-front.ensures in
    let reason = c.in-Err-NoEntry.ensures.no_entry (ap Err c.in-Err-NoEntry.field-0-is) in
    let size = c.requires.size told is in
    let broken = front_no_body (drop c.args.gate told) _ _ front_is c.args.version (c.args.size - c.args.gate) (omega (arith, size, length-drop c.args.gate told)) reason in (
      front_open (drop c.args.gate told) _ _ front_is (omega (arith, reason.1)) c.if-front-eq-CLOSED.false,
      inr (c.if-is_full.false, inr (damaged_at _ _ refused, omega (arith, broken.0, length-drop c.args.gate told, size, c.requires.within), broken.1)),
    )

pub returns-then-front-eq-CLOSED-clause-closed : goal.returns-then-front-eq-CLOSED-clause-closed
returns-then-front-eq-CLOSED-clause-closed g c = λ told is.
    let reached = c.in_ok-reach.ensures in
    let front_is = front_shown told _ _ _ c.args.gate reached.reaches (omega (arith, reached.covers)) (reached.shows told is) c.from-front.ensures in
    let long : 1 ≤ length c.from-front.result.now = omega (arith, ap length c.from-front.ensures, length-drop (c.args.gate - c.reach.new.self.place) c.reach.new.self.bytes, reached.covers, reached.reaches, c.requires.within) in
    front_closed (drop c.args.gate told) _ _ front_is long c.if-front-eq-CLOSED.true

pub returns-then-is_full-clause-damaged : goal.returns-then-is_full-clause-damaged
returns-then-is_full-clause-damaged g c = λ at refused told is.
    let reached = c.in_ok-reach.ensures in
    let front_is = front_shown told _ _ _ c.args.gate reached.reaches (omega (arith, reached.covers)) (reached.shows told is) c.from-front.ensures in
    let long : 1 ≤ length c.from-front.result.now = omega (arith, ap length c.from-front.ensures, length-drop (c.args.gate - c.reach.new.self.place) c.reach.new.self.bytes, reached.covers, reached.reaches, c.requires.within) in
    (front_open (drop c.args.gate told) _ _ front_is long c.if-front-eq-CLOSED.false, inl (damaged_at _ _ refused, c.if-is_full.true))

pub returns-in-Err-Cut-clause-damaged : goal.returns-in-Err-Cut-clause-damaged
returns-in-Err-Cut-clause-damaged g c = λ at refused told is.
    let reached = c.in_ok-reach.ensures in
    let front_is = front_shown told _ _ _ c.args.gate reached.reaches (omega (arith, reached.covers)) (reached.shows told is) c.from-front.ensures in
    let long : 1 ≤ length c.from-front.result.now = omega (arith, ap length c.from-front.ensures, length-drop (c.args.gate - c.reach.new.self.place) c.reach.new.self.bytes, reached.covers, reached.reaches, c.requires.within) in
    let reason = c.in-Err-Cut.ensures.cut (ap Err c.in-Err-Cut.field-0-is) in
    let size = c.requires.size told is in
    let cut = front_cut (drop c.args.gate told) _ _ front_is (c.args.size - c.args.gate) (omega (arith, size, length-drop c.args.gate told)) reason in (
      front_open (drop c.args.gate told) _ _ front_is long c.if-front-eq-CLOSED.false,
      inr (c.if-is_full.false, inl (damaged_at _ _ refused, omega (arith, cut, length-drop c.args.gate told, size, c.requires.within))),
    )

pub returns-in_err-reach-clause-reads : goal.returns-in_err-reach-clause-reads
returns-in_err-reach-clause-reads g c = reads_told g.D.Disk c.in_err-reach.ensures.reads (λ failed. err_is _ whys.DiskFault c.from_residual.ensures.1) (λ failed. refl)

pub returns-in-Ok-clause-found : goal.returns-in-Ok-clause-found
returns-in-Ok-clause-found g c =
    let found = c.in-Ok.ensures in (found.fit, c.if-is_full.false, omega (arith, found.size.0), omega (arith, found.size.1))

pub returns-then-front-eq-CLOSED-clause-reads : goal.returns-then-front-eq-CLOSED-clause-reads
returns-then-front-eq-CLOSED-clause-reads g c = reads_right g.D.Disk c.in_ok-reach.ensures.reads (both_ways false refl) ok_no_err

pub returns-then-is_full-clause-reads : goal.returns-then-is_full-clause-reads
returns-then-is_full-clause-reads g c = reads_right g.D.Disk c.in_ok-reach.ensures.reads (both_ways false refl) (damage_no_fault _)

pub returns-in-Ok-clause-reads : goal.returns-in-Ok-clause-reads
returns-in-Ok-clause-reads g c = reads_right g.D.Disk c.in_ok-reach.ensures.reads (both_ways false refl) ok_no_err

pub returns-in-Err-Cut-clause-reads : goal.returns-in-Err-Cut-clause-reads
returns-in-Err-Cut-clause-reads g c = reads_right g.D.Disk c.in_ok-reach.ensures.reads (both_ways false refl) (damage_no_fault _)

pub returns-in-Err-NoEntry-clause-reads : goal.returns-in-Err-NoEntry-clause-reads
returns-in-Err-NoEntry-clause-reads g c = reads_right g.D.Disk c.in_ok-reach.ensures.reads (both_ways false refl) (damage_no_fault _)

pub returns-in-Err-NoMemory-clause-reads : goal.returns-in-Err-NoMemory-clause-reads
returns-in-Err-NoMemory-clause-reads g c = reads_right g.D.Disk c.in_ok-reach.ensures.reads (both_ways false refl) memory_no_fault

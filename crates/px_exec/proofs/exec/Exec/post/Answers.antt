use Rattle.std.proofs.Common.{◌^◌, Result, Err, length, IsTrue, refl, sym, ◌∙◌, ap, subst, arith}
use Rattle.std.proofs.lemmas.Result.{err_from_is_err_and}
use Rattle.px_value.proofs.General.{none_from}
use Rattle.px_event.specs.Fit.{is_fit_entry}
use Rattle.px_event.specs.declared.entry.Entry.{Entry}
use Rattle.px_event.specs.declared.reply.Reply.{Reply}
use Rattle.px_journal.proofs.Ready.{ready_count, ready_few}
use Rattle.px_exec.specs.declared.answering.Unanswered.{Unanswered}
use Rattle.px_exec.proofs.Images.{adds_nothing, adds_told}
use Rattle.px_exec.proofs.Keeping.{keeps_as_before}
use Rattle.px_exec.proofs.Tellings.{unfailed_of, failed_of, closes_with, grows_from, length_more, at_rest, ready_now, keeps_reply, posts_reply, keeps_fault, posts_fault, posts_out, answered_otherwise}
use Rattle.px_exec.proofs.exec.Exec.post.Goals as goal

pub same-self : goal.same-self
same-self g c = refl

pub returns-in-Some-clause-answers : goal.returns-in-Some-clause-answers
returns-in-Some-clause-answers g c = rw (← c.self.view_is) (record { same = refl; failed = failed_of _ _ _ c.closed_after.ensures c.in-Some.is })

pub returns-in-Some-clause-crash : goal.returns-in-Some-clause-crash
returns-in-Some-clause-crash g c = adds_nothing g.D.Disk _ _ (λ failed. absurd (cc))

-- ---- memory ran out before anything was done

pub invariant_of-self : goal.invariant_of-self
invariant_of-self g c =
    keeps_as_before g.S.Stepper g.D.Disk _ _ _ _ _ _ c.self.invariant refl refl c.in_err-copies.ensures.history c.in_err-copies.ensures.log refl

pub returns-in_err-copies-clause-answers : goal.returns-in_err-copies-clause-answers
returns-in_err-copies-clause-answers g c =
    let p = err_from_is_err_and c.from_residual.result c.from_residual.ensures.1 in
    rw (p.1, p.2, ← c.self.view_is)
    (posts_out g.S.Stepper g.D.Disk _ c.self.invariant (unfailed_of _ _ c.closed_after.ensures (none_from _ c.in_default.not-Some)) _ _ _ _ refl refl c.in_err-copies.ensures.history c.in_err-copies.ensures.log)

pub returns-in_err-copies-clause-crash : goal.returns-in_err-copies-clause-crash
returns-in_err-copies-clause-crash g c =
    let p = err_from_is_err_and c.from_residual.result c.from_residual.ensures.1 in
    rw (p.1, p.2, ← c.self.view_is) (adds_nothing g.D.Disk _ _ (λ failed. absurd (cc)))

-- ---- the answer

pub overflow_cast-len : goal.overflow_cast-len
overflow_cast-len g c =
    let ready = ready_now g.S.Stepper g.D.Disk _ c.self.invariant (unfailed_of _ _ c.closed_after.ensures (none_from _ c.in_default.not-Some)) in
    omega (arith, c.len.ensures, ap length c.in_ok-copies.ensures.history, ready_few _ _ _ _ ready)

pub answer-requires-clause-nothing : goal.answer-requires-clause-nothing
answer-requires-clause-nothing g c = at_rest g.S.Stepper g.D.Disk _ c.self.invariant

pub answer-requires-clause-fit : goal.answer-requires-clause-fit
answer-requires-clause-fit g c = subst (λ (e : Entry). IsTrue (is_fit_entry e)) (sym c.in_ok-copies.ensures.for_log) c.requires.fit

pub answer-requires-clause-within : goal.answer-requires-clause-within
answer-requires-clause-within g c = c.self.invariant.most

pub answer-requires-clause-ready : goal.answer-requires-clause-ready
answer-requires-clause-ready g c =
    (c.self.invariant.text.0, _, ready_now g.S.Stepper g.D.Disk _ c.self.invariant (unfailed_of _ _ c.closed_after.ensures (none_from _ c.in_default.not-Some)))

pub answer-requires-clause-count : goal.answer-requires-clause-count
answer-requires-clause-count g c =
    let ready = ready_now g.S.Stepper g.D.Disk _ c.self.invariant (unfailed_of _ _ c.closed_after.ensures (none_from _ c.in_default.not-Some)) in
    omega (arith, c.len.ensures, c.prepare.new.history.ok.0, ap length c.in_ok-copies.ensures.history, ready_count _ _ _ _ ready)

-- ---- a reply

pub log_reply-requires-clause-same : goal.log_reply-requires-clause-same
log_reply-requires-clause-same g c = c.in_ok-copies.ensures.for_history ∙ sym c.in_ok-copies.ensures.for_log

pub log_reply-requires-clause-history_room : goal.log_reply-requires-clause-history_room
log_reply-requires-clause-history_room g c = c.in_ok-copies.ensures.history_room

pub log_reply-requires-clause-log_room : goal.log_reply-requires-clause-log_room
log_reply-requires-clause-log_room g c = c.in_ok-copies.ensures.log_room

pub invariant_of-self-in-Ok : goal.invariant_of-self-in-Ok
invariant_of-self-in-Ok g c =
    let before = c.in_ok-copies.ensures in
    let done = c.in-Ok.ensures in
    keeps_reply g.S.Stepper g.D.Disk _ c.self.invariant (unfailed_of _ _ c.closed_after.ensures (none_from _ c.in_default.not-Some)) c.in_ok-copies.copies.for_log c.answer.new.stepper c.answer.new.journal
    _ (omega (arith, c.len.ensures, c.prepare.new.history.ok.0, ap length before.history)) _ _ c.in-Ok.reply done.due done.state
    (grows_from _ _ _ _ c.log_reply.ensures.log before.log) (grows_from _ _ _ _ c.log_reply.ensures.history before.history) done.kept done.refused
    (length_more _ _ _ (2 ^ 32) c.log_reply.ensures.log (omega (arith, before.few, c.prepare.new.log.ok.0))) done.named (λ failed. absurd (cc)) done.crash

pub returns-in-Ok-clause-answers : goal.returns-in-Ok-clause-answers
returns-in-Ok-clause-answers g c =
    let before = c.in_ok-copies.ensures in
    let done = c.in-Ok.ensures in
    rw (c.told.ensures, ← before.for_log, ← c.self.view_is)
    (posts_reply g.S.Stepper g.D.Disk _ c.self.invariant (unfailed_of _ _ c.closed_after.ensures (none_from _ c.in_default.not-Some)) c.in_ok-copies.copies.for_log c.answer.new.stepper c.answer.new.journal
    _ (omega (arith, c.len.ensures, c.prepare.new.history.ok.0, ap length before.history)) _ _ c.in-Ok.reply done.due done.state
    (grows_from _ _ _ _ c.log_reply.ensures.log before.log) (grows_from _ _ _ _ c.log_reply.ensures.history before.history) done.kept done.refused
    c.standing.result c.standing.ensures)

pub returns-in-Ok-clause-crash : goal.returns-in-Ok-clause-crash
returns-in-Ok-clause-crash g c =
    rw (c.told.ensures, ← c.in_ok-copies.ensures.for_log, ← c.self.view_is)
    (adds_told g.D.Disk c.in-Ok.ensures.crash (λ failed. absurd (cc)) (λ failed. absurd (answered_otherwise _ _ _ failed)))

-- ---- a failed append

pub invariant_of-self-in-Err-DiskFault : goal.invariant_of-self-in-Err-DiskFault
invariant_of-self-in-Err-DiskFault g c =
    let before = c.in_ok-copies.ensures in
    let done = c.in-Err-DiskFault.ensures in
    let is = ap (λ fault. let r : Result Reply Unanswered = Err fault in r) c.in-Err-DiskFault.field-0-is in
    keeps_fault g.S.Stepper g.D.Disk _ c.self.invariant (unfailed_of _ _ c.closed_after.ensures (none_from _ c.in_default.not-Some)) c.in_ok-copies.copies.for_log c.answer.new.stepper c.answer.new.journal
    _ (omega (arith, c.len.ensures, c.prepare.new.history.ok.0, ap length before.history)) _ _ _ before.history before.log
    (closes_with _ _ _ _ _ c.close.ensures (before.for_history ∙ sym before.for_log) c.faults.ensures) (done.was_due is) done.err is done.crash
    (subst (λ (e : Entry). IsTrue (is_fit_entry e)) (sym before.for_log) c.requires.fit)

pub returns-in-Err-DiskFault-clause-answers : goal.returns-in-Err-DiskFault-clause-answers
returns-in-Err-DiskFault-clause-answers g c =
    let before = c.in_ok-copies.ensures in
    let done = c.in-Err-DiskFault.ensures in
    let is = ap (λ fault. let r : Result Reply Unanswered = Err fault in r) c.in-Err-DiskFault.field-0-is in
    rw (← before.for_log, ← c.self.view_is)
    (posts_fault g.S.Stepper g.D.Disk _ c.self.invariant (unfailed_of _ _ c.closed_after.ensures (none_from _ c.in_default.not-Some)) c.in_ok-copies.copies.for_log c.answer.new.stepper c.answer.new.journal
    _ (omega (arith, c.len.ensures, c.prepare.new.history.ok.0, ap length before.history)) _ _ _ before.history before.log
    (closes_with _ _ _ _ _ c.close.ensures (before.for_history ∙ sym before.for_log) c.faults.ensures) (done.was_due is) done.err is done.crash)

pub returns-in-Err-DiskFault-clause-crash : goal.returns-in-Err-DiskFault-clause-crash
returns-in-Err-DiskFault-clause-crash g c =
    let is = ap (λ fault. let r : Result Reply Unanswered = Err fault in r) c.in-Err-DiskFault.field-0-is in
    rw (← c.in_ok-copies.ensures.for_log, ← c.self.view_is) (adds_told g.D.Disk c.in-Err-DiskFault.ensures.crash (λ failed. refl) (λ failed. is))

-- ---- memory ran out on the way

pub invariant_of-self-in-Err-NoMemory : goal.invariant_of-self-in-Err-NoMemory
invariant_of-self-in-Err-NoMemory g c =
    let done = c.in-Err-NoMemory.ensures in
    let is = ap (λ fault. let r : Result Reply Unanswered = Err fault in r) c.in-Err-NoMemory.field-0-is in
    keeps_as_before g.S.Stepper g.D.Disk _ _ _ _ _ _ c.self.invariant done.err (done.no_memory is) c.in_ok-copies.ensures.history c.in_ok-copies.ensures.log refl

pub returns-in-Err-NoMemory-clause-answers : goal.returns-in-Err-NoMemory-clause-answers
returns-in-Err-NoMemory-clause-answers g c =
    let done = c.in-Err-NoMemory.ensures in
    let is = ap (λ fault. let r : Result Reply Unanswered = Err fault in r) c.in-Err-NoMemory.field-0-is in
    rw (← c.self.view_is)
    (posts_out g.S.Stepper g.D.Disk _ c.self.invariant (unfailed_of _ _ c.closed_after.ensures (none_from _ c.in_default.not-Some)) _ _ _ _ done.err (done.no_memory is) c.in_ok-copies.ensures.history c.in_ok-copies.ensures.log)

pub returns-in-Err-NoMemory-clause-crash : goal.returns-in-Err-NoMemory-clause-crash
returns-in-Err-NoMemory-clause-crash g c =
    let is = c.in-Err-NoMemory.field-0-is in
    rw (← c.in_ok-copies.ensures.for_log, ← c.self.view_is)
    (adds_told g.D.Disk c.in-Err-NoMemory.ensures.crash (λ failed. absurd (let both = is in cc)) (λ failed. absurd (cc)))

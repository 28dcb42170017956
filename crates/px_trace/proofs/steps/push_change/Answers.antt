use Rattle.std.proofs.Common.{append_assoc}
use Rattle.px_value.proofs.General.{begins_further}
use Rattle.px_trace.proofs.Appends.{keeps_on, err_unchanged, ok_along}
use Rattle.px_trace.proofs.steps.push_change.Goals as goal

pub returns-clause-ok : goal.returns-clause-ok
returns-clause-ok c =
    let path = c.in_ok-push_all.ensures.ok in
    let states = c.in_ok-push_all-2.ensures.ok in
    let outcome = c.in_ok-push_outcome.ensures.ok in
    let failure = c.in_ok-push_failure.ensures.ok in
    ok_along _ _ _ _
    (rw (failure, outcome, states, path, c.as_str.ensures.value, c.word.ensures, c.word-2.ensures) (simp append_assoc))
    c.push_all-3.ensures.ok

pub returns-clause-err : goal.returns-clause-err
returns-clause-err c =
    let path = keeps_on _ _ _ c.in_ok-push_all.ensures.ok in
    let states = begins_further _ _ _ path (keeps_on _ _ _ c.in_ok-push_all-2.ensures.ok) in
    let outcome = begins_further _ _ _ states (keeps_on _ _ _ c.in_ok-push_outcome.ensures.ok) in
    let failure = begins_further _ _ _ outcome (keeps_on _ _ _ c.in_ok-push_failure.ensures.ok) in
    err_unchanged _ _ _ _ failure c.push_all-3.ensures.err

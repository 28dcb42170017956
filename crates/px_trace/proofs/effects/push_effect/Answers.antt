use Rattle.px_value.proofs.General.{begins_further}
use Rattle.px_trace.proofs.Appends.{keeps_on, err_further}
use Rattle.px_trace.proofs.effects.push_effect.Goals as goal

pub returns-in_ok-push_all-in-Wrote-clause-err : goal.returns-in_ok-push_all-in-Wrote-clause-err
returns-in_ok-push_all-in-Wrote-clause-err c =
    let cell = keeps_on _ _ _ c.in_ok-push_cell-in-Wrote.ensures.ok in
    let sign = begins_further _ _ _ cell (keeps_on _ _ _ c.in_ok-push_all-in-Wrote.ensures.ok) in
    err_further _ _ _ _ sign c.push_value.ensures.err

pub returns-in_ok-push_all-in-Sent-clause-err : goal.returns-in_ok-push_all-in-Sent-clause-err
returns-in_ok-push_all-in-Sent-clause-err c =
    err_further _ _ _ _ (keeps_on _ _ _ c.in_ok-push_all-in-Sent.ensures.ok) c.push_arguments.ensures.err

pub returns-in_ok-push_all-in-Updated-clause-err : goal.returns-in_ok-push_all-in-Updated-clause-err
returns-in_ok-push_all-in-Updated-clause-err c =
    err_further _ _ _ _ (keeps_on _ _ _ c.in_ok-push_all-in-Updated.ensures.ok) c.push_pairs.ensures.err

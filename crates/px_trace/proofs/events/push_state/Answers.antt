use Rattle.px_trace.proofs.Appends.{keeps_on, err_further}
use Rattle.px_trace.proofs.events.push_state.Goals as goal

pub returns-else-is_empty-clause-err : goal.returns-else-is_empty-clause-err
returns-else-is_empty-clause-err c =
    err_further _ _ _ _ (keeps_on _ _ _ c.in_ok-push_all.ensures.ok) c.push_arguments.ensures.err

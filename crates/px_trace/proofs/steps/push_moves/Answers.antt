use Rattle.px_value.proofs.General.{begins_further, on_err}
use Rattle.px_trace.proofs.Appends.{keeps_on}
use Rattle.px_trace.proofs.steps.push_moves.Goals as goal

pub returns-in_err-push_change-clause-err : goal.returns-in_err-push_change-clause-err
returns-in_err-push_change-clause-err c =
    on_err _ (begins_further _ _ _ (keeps_on _ _ _ c.loop-step.invariant) c.in_err-push_change.ensures.err)

pub returns-in_err-push_effect_line-clause-err : goal.returns-in_err-push_effect_line-clause-err
returns-in_err-push_effect_line-clause-err c =
    let before = keeps_on _ _ _ c.loop-step.invariant in
    let change = begins_further _ _ _ before (keeps_on _ _ _ c.in_ok-push_change.ensures.ok) in
    on_err _ (begins_further _ _ _ change c.in_err-push_effect_line.ensures.err)

use Rattle.px_value.proofs.General.{begins_further, on_err}
use Rattle.px_trace.proofs.Appends.{keeps_on}
use Rattle.px_trace.proofs.steps.push_effect_line.Goals as goal

pub returns-in_err-push_effect-clause-err : goal.returns-in_err-push_effect-clause-err
returns-in_err-push_effect-clause-err c =
    on_err _ (begins_further _ _ _ (keeps_on _ _ _ c.in_ok-push_all.ensures.ok) c.in_err-push_effect.ensures.err)

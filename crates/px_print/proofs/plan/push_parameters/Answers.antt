use Rattle.std.proofs.Common.{arith}
use Rattle.std.proofs.lemmas.Result.{on_ok_weaker}
use Rattle.px_value.proofs.General.{first_and_rest}
use Rattle.px_print.proofs.Laid.{parameters_laid}
use Rattle.px_print.proofs.plan.push_parameters.Goals as goal

pub returns-in_ok-push_further-in-len1-up : goal.returns-in_ok-push_further-in-len1-up
returns-in_ok-push_further-in-len1-up c =
    on_ok_weaker c.push_all-in-len1-up.result
    (parameters_laid c.args.parameters.now _ c.first-item.result _ _ _ _ _ (first_and_rest _ _ (omega arith) c.first-item.is) c.in_ok-push_all-in-len1-up.ensures
    c.in_ok-push_parameter-in-len1-up.ensures c.in_ok-push_further-in-len1-up.ensures)
    c.push_all-in-len1-up.ensures

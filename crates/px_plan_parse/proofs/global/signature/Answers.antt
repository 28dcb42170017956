use Rattle.px_value.proofs.General.{handed_on}
use Rattle.px_plan_parse.specs.Part.{Anything}
use Rattle.px_plan_parse.proofs.Parts.{of_found, joins_both, lack_joined, part_joined}
use Rattle.px_expr_parse.proofs.Spans.{local_identifier}
use Rattle.px_plan_parse.proofs.Shortests.{short_declared}
use Rattle.px_plan_parse.proofs.Parts.{lack_first, of_missing}
use Rattle.px_syntax.specs.Form.{identifier}
use Rattle.px_plan_parse.proofs.global.signature.Goals as goal

pub returns-in_err-parameters-clause-fault : goal.returns-in_err-parameters-clause-fault
returns-in_err-parameters-clause-fault c =
    handed_on _ _ _ c.from_residual-in_err-parameters.ensures.1
    (lack_joined (joins_both (λ others part from end o next. tt) (local_identifier _)
    (of_found Anything c.in_ok-name.ensures.ok)) c.in_err-parameters.ensures.fault)

pub returns-clause-ok : goal.returns-clause-ok
returns-clause-ok c =
    part_joined (joins_both (λ others part from end o next. tt) (local_identifier _) (of_found Anything c.in_ok-name.ensures.ok)) c.in_ok-parameters.ensures.ok

pub returns-in_err-name-clause-fault : goal.returns-in_err-name-clause-fault
returns-in_err-name-clause-fault c =
    handed_on _ _ _ c.from_residual.ensures.1 (lack_first {Next = Anything} (λ others part from end o next. tt) short_declared
    (of_missing identifier c.args.tokens.now c.args.from c.in_err-name.field-0.0 Anything c.in_err-name.ensures.fault))

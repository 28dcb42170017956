use Rattle.std.proofs.Common.{refl}
use Rattle.px_value.proofs.General.{handed_on}
use Rattle.std.proofs.lemmas.Bool.{false≢true}
use Rattle.px_plan_parse.proofs.Items.{lacks_literal}
use Rattle.px_plan_parse.proofs.Numbers.{lack_literal, no_literal}
use Rattle.px_plan_parse.proofs.literal.literal_at.Goals as goal

pub returns-in_err-token_literal-in-Some-clause-fault : goal.returns-in_err-token_literal-in-Some-clause-fault
returns-in_err-token_literal-in-Some-clause-fault c =
    handed_on _ _ _ c.from_residual-in_err-token_literal-in-Some.ensures.1 (lacks_literal c.args.tokens.now c.args.from c.in-Some.kind.now c.in-Some.ensures.1
    (λ has. false≢true (c.if-is_sign.ensures.answer.1 has)) c.in-Some.ensures.0 _ c.in_err-token_literal-in-Some.ensures.fault)

pub returns-in_err-size-clause-fault : goal.returns-in_err-size-clause-fault
returns-in_err-size-clause-fault c =
    handed_on _ _ _ c.from_residual.ensures.1 (lack_literal c.args.tokens.now c.args.from (c.if-is_sign.ensures.answer.0 refl) c.in_err-size.ensures.fault)

pub returns-in-None-clause-fault : goal.returns-in-None-clause-fault
returns-in-None-clause-fault c = no_literal c.args.tokens.now c.args.from c.requires c.in-None.ensures

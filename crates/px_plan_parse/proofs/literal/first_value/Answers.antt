use Rattle.std.proofs.Common.{refl}
use Rattle.px_plan_parse.proofs.Items.{not_ended}
use Rattle.px_plan_parse.proofs.Parts.{part_behind, part_narrowed, part_present}
use Rattle.px_value.proofs.General.{handed_on}
use Rattle.px_plan_parse.proofs.Parts.{lack_behind, lack_narrowed, lack_present}
use Rattle.px_plan_parse.proofs.literal.first_value.Goals as goal

pub returns-clause-ok : goal.returns-clause-ok
returns-clause-ok c =
    part_present (not_ended c.args.tokens.now c.args.from (c.if-not-is_sign.ensures.answer.0 refl))
    (part_behind (c.if-not-is_sign.ensures.answer.0 refl) (part_narrowed (λ others place ended. tt) c.in_ok-value.ensures.ok))

pub returns-in_err-value-clause-fault : goal.returns-in_err-value-clause-fault
returns-in_err-value-clause-fault c =
    handed_on _ _ _ c.from_residual.ensures.1 (lack_present (not_ended c.args.tokens.now c.args.from (c.if-not-is_sign.ensures.answer.0 refl))
    (lack_behind (c.if-not-is_sign.ensures.answer.0 refl) (lack_narrowed (λ others place ended. tt) c.in_err-value.ensures.fault)))

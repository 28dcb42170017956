use Rattle.std.proofs.Common.{refl}
use Rattle.px_value.proofs.General.{handed_on}
use Rattle.std.proofs.lemmas.Bool.{false≢true}
use Rattle.px_plan_parse.proofs.Items.{makes_list, makes_value}
use Rattle.px_plan_parse.proofs.Parts.{lack_behind, lack_made, part_behind, part_made}
use Rattle.px_plan_parse.proofs.literal.initial.Goals as goal

pub returns-in_err-values-clause-fault : goal.returns-in_err-values-clause-fault
returns-in_err-values-clause-fault c =
    handed_on _ _ _ c.from_residual.ensures.1 (lack_made (makes_list c.args.tokens.now c.args.from (c.if-is_sign.ensures.answer.0 refl))
    (lack_behind (c.if-is_sign.ensures.answer.0 refl) c.in_err-values.ensures.fault))

pub returns-then-is_sign-clause-ok : goal.returns-then-is_sign-clause-ok
returns-then-is_sign-clause-ok c =
    rw c.first_list.ensures (part_made (makes_list c.args.tokens.now c.args.from (c.if-is_sign.ensures.answer.0 refl))
    (part_behind (c.if-is_sign.ensures.answer.0 refl) c.in_ok-values.ensures.ok))

pub returns-clause-ok : goal.returns-clause-ok
returns-clause-ok c =
    rw c.first_literal.ensures (part_made (makes_value c.args.tokens.now c.args.from
    (λ has. false≢true (c.if-is_sign.ensures.answer.1 has))) c.in_ok-value.ensures.ok)

pub returns-in_err-value-clause-fault : goal.returns-in_err-value-clause-fault
returns-in_err-value-clause-fault c =
    handed_on _ _ _ c.from_residual-in_err-value.ensures.1
    (lack_made (makes_value c.args.tokens.now c.args.from (λ has. false≢true (c.if-is_sign.ensures.answer.1 has))) c.in_err-value.ensures.fault)

use Rattle.std.proofs.Common.{refl}
use Rattle.px_value.proofs.General.{handed_on}
use Rattle.std.proofs.lemmas.Bool.{false≢true}
use Rattle.px_plan_parse.proofs.Globals.{makes_given_parameters, makes_no_parameters}
use Rattle.px_plan_parse.proofs.Parts.{lack_alone, lack_before, lack_behind, lack_made, lack_token, part_alone, part_before, part_behind, part_made}
use Rattle.px_plan_parse.proofs.Spans.{local_closed_parameters}
use Rattle.px_plan_parse.proofs.global.declared_parameters.Goals as goal

pub returns-in_err-expect-clause-fault : goal.returns-in_err-expect-clause-fault
returns-in_err-expect-clause-fault c =
    handed_on _ _ _ c.from_residual.ensures.1 (lack_made
    (makes_no_parameters c.args.tokens.now c.args.from (λ has. false≢true (c.if-not-is_sign.ensures.answer.1 has)))
    (lack_alone c.requires c.in_err-expect.ensures.fault))

pub returns-then-not-is_sign-clause-ok : goal.returns-then-not-is_sign-clause-ok
returns-then-not-is_sign-clause-ok c =
    rw c.new.ensures.items
    (part_made (makes_no_parameters c.args.tokens.now c.args.from (λ has. false≢true (c.if-not-is_sign.ensures.answer.1 has)))
    (part_alone c.in_ok-expect.ensures.ok.0 c.in_ok-expect.ensures.ok.1))

pub returns-in_err-parameters-clause-fault : goal.returns-in_err-parameters-clause-fault
returns-in_err-parameters-clause-fault c =
    handed_on _ _ _ c.from_residual-in_err-parameters.ensures.1
    (lack_made (makes_given_parameters c.args.tokens.now c.args.from (c.if-not-is_sign.ensures.answer.0 refl))
    (lack_behind (c.if-not-is_sign.ensures.answer.0 refl) (lack_before (λ others place is. tt) c.in_err-parameters.ensures.fault)))

pub returns-in_err-expect-2-clause-fault : goal.returns-in_err-expect-2-clause-fault
returns-in_err-expect-2-clause-fault c =
    handed_on _ _ _ c.from_residual-in_err-expect-2.ensures.1
    (lack_made (makes_given_parameters c.args.tokens.now c.args.from (c.if-not-is_sign.ensures.answer.0 refl))
    (lack_behind (c.if-not-is_sign.ensures.answer.0 refl)
    (lack_token (λ others place is. tt) (local_closed_parameters _) c.in_ok-parameters.ensures.ok c.in_err-expect-2.ensures.fault)))

pub returns-clause-ok : goal.returns-clause-ok
returns-clause-ok c =
    part_made (makes_given_parameters c.args.tokens.now c.args.from (c.if-not-is_sign.ensures.answer.0 refl))
    (part_behind (c.if-not-is_sign.ensures.answer.0 refl)
    (part_before (λ others place is. tt) (local_closed_parameters _) c.in_ok-expect-2.ensures.ok.0 c.in_ok-parameters.ensures.ok c.in_ok-expect-2.ensures.ok.1))

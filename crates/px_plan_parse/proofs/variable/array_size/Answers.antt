use Rattle.std.proofs.Common.{◌≡◌, ◌+◌, refl, arith}
use Rattle.px_value.proofs.General.{handed_on}
use Rattle.px_lex.specs.declared.sign.Sign.TheVariants as signs
use Rattle.px_plan_parse.specs.Part.{Anything}
use Rattle.px_plan_parse.proofs.Names.{not_unless}
use Rattle.px_plan_parse.proofs.Parts.{lack_before, lack_behind, lack_present, lack_token}
use Rattle.px_plan_parse.proofs.Spans.{local_number}
use Rattle.px_plan_parse.proofs.variable.array_size.Goals as goal

pub returns-in_err-size-clause-fault : goal.returns-in_err-size-clause-fault
returns-in_err-size-clause-fault c =
    let bracket = c.if-not-is_sign.ensures.answer.0 refl in
    handed_on _ _ _ c.from_residual.ensures.1 (lack_present (not_unless c.args.tokens.now c.args.from signs.OpenBracket bracket)
    (lack_behind bracket (lack_before {Next = Anything} (λ others place is. tt) c.in_err-size.ensures.fault)))

pub returns-in_err-expect-clause-fault : goal.returns-in_err-expect-clause-fault
returns-in_err-expect-clause-fault c =
    let bracket = c.if-not-is_sign.ensures.answer.0 refl in
    let two : c.args.from + 2 ≡ c.args.from + 1 + 1 = omega arith in
    handed_on _ _ _ c.from_residual-in_err-expect.ensures.1 (lack_present (not_unless c.args.tokens.now c.args.from signs.OpenBracket bracket)
    (lack_behind bracket (lack_token {Next = Anything} (λ others place is. tt) (local_number _) c.in_ok-size.ensures.ok
    (rw two at c.in_err-expect.ensures.fault))))

use Rattle.std.proofs.Common.{◌+◌, refl}
use Rattle.px_value.proofs.General.{handed_on}
use Rattle.px_lex.specs.declared.sign.Sign.TheVariants as signs
use Rattle.px_expr_parse.specs.Tail.{closed}
use Rattle.px_plan_parse.specs.Tail.{Unless}
use Rattle.px_plan_parse.proofs.Names.{not_unless}
use Rattle.px_plan_parse.proofs.Parts.{lack_behind, lack_present, of_found, of_missing, part_behind, part_present}
use Rattle.px_plan_parse.proofs.named.optional_index.Goals as goal

pub returns-in_err-index-clause-fault : goal.returns-in_err-index-clause-fault
returns-in_err-index-clause-fault c =
    let bracket = c.if-not-is_sign.ensures.answer.0 refl in
    handed_on _ _ _ c.from_residual.ensures.1 (lack_present (not_unless c.args.tokens.now c.args.from signs.OpenBracket bracket)
    (lack_behind bracket (of_missing (closed signs.CloseBracket) c.args.tokens.now (c.args.from + 1) c.in_err-index.field-0.0 (Unless signs.OpenBracket)
    c.in_err-index.ensures.fault)))

pub returns-clause-ok : goal.returns-clause-ok
returns-clause-ok c =
    let bracket = c.if-not-is_sign.ensures.answer.0 refl in
    part_present (not_unless c.args.tokens.now c.args.from signs.OpenBracket bracket)
    (part_behind bracket (of_found (Unless signs.OpenBracket) c.in_ok-index.ensures.ok))

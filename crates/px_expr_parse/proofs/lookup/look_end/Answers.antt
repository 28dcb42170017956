use Rattle.std.proofs.Common.{◌+◌, refl}
use Rattle.std.proofs.lemmas.Bool.{false≢true}
use Rattle.px_value.proofs.General.{handed_on}
use Rattle.px_lex.specs.declared.sign.Sign.TheVariants as signs
use Rattle.px_lex.specs.declared.token.TokenKind.TheVariants as kinds
use Rattle.px_syntax.specs.ExprGrammar.{tolerance_number}
use Rattle.px_expr_parse.proofs.Lookups.{ends_comma, missing_close}
use Rattle.px_expr_parse.proofs.Parts.{before, ends_behind, missing_before, missing_behind, missing_ending, two}
use Rattle.px_expr_parse.proofs.Spans.{local_tolerance}
use Rattle.px_expr_parse.proofs.lookup.look_end.Goals as goal

pub returns-in_err-tolerance-clause-fault : goal.returns-in_err-tolerance-clause-fault
returns-in_err-tolerance-clause-fault c =
    let comma = (c.if-has_comma.ensures.answer.0 refl).1 in
    let fault = c.in_err-tolerance.field-0.0 in
    handed_on _ _ _ c.from_residual.ensures.1
    (rw (c.if-has_comma.ensures.answer.0 refl).0 (missing_ending (ends_comma c.args.tokens.now c.args.from comma) fault
    (missing_ending (ends_behind (kinds.Sign signs.Comma) c.args.tokens.now c.args.from (before tolerance_number (kinds.Sign signs.CloseParen)) comma) fault
    (missing_before (kinds.Sign signs.CloseParen) c.args.tokens.now (c.args.from + 1) tolerance_number fault c.in_err-tolerance.ensures.fault))))

pub returns-in_err-expect-clause-fault : goal.returns-in_err-expect-clause-fault
returns-in_err-expect-clause-fault c =
    let comma = (c.if-has_comma.ensures.answer.0 refl).1 in
    let fault = c.in_err-expect.field-0.0 in
    handed_on _ _ _ c.from_residual-in_err-expect.ensures.1
    (rw (c.if-has_comma.ensures.answer.0 refl).0 (missing_ending (ends_comma c.args.tokens.now c.args.from comma) fault
    (missing_ending (ends_behind (kinds.Sign signs.Comma) c.args.tokens.now c.args.from (before tolerance_number (kinds.Sign signs.CloseParen)) comma) fault
    (missing_behind (kinds.Sign signs.CloseParen) c.args.tokens.now (c.args.from + 1) tolerance_number fault (local_tolerance c.in_ok-tolerance.tolerance)
    c.in_ok-tolerance.ensures.ok (rw (two c.args.from) at c.in_err-expect.ensures.fault)))))

pub returns-in_err-expect-2-clause-fault : goal.returns-in_err-expect-2-clause-fault
returns-in_err-expect-2-clause-fault c =
    handed_on _ _ _ c.from_residual-in_err-expect-2.ensures.1
    (missing_close c.args.word c.args.tokens.now c.args.from c.in_err-expect-2.field-0.0 c.requires
    (λ is has. false≢true (c.if-has_comma.ensures.answer.1 (is, has)))
    c.in_err-expect-2.ensures.fault)

use Rattle.std.proofs.Common.{◌+◌}
use Rattle.px_value.proofs.General.{handed_on}
use Rattle.px_lex.specs.declared.sign.Sign.TheVariants as signs
use Rattle.px_lex.specs.declared.token.TokenKind.TheVariants as kinds
use Rattle.px_syntax.specs.Form.{identifier}
use Rattle.px_expr_parse.proofs.Completions.{short_before, short_name}
use Rattle.px_expr_parse.proofs.Parts.{before, ends_behind, missing_before, missing_behind, missing_ending, missing_kind, two}
use Rattle.px_expr_parse.proofs.Spans.{local_identifier}
use Rattle.px_expr_parse.proofs.node.name_in_parens.Goals as goal

pub returns-in_err-expect-clause-fault : goal.returns-in_err-expect-clause-fault
returns-in_err-expect-clause-fault c =
    handed_on _ _ _ c.from_residual.ensures.1
    (missing_kind (kinds.Sign signs.OpenParen) c.args.tokens.now c.args.at (before identifier (kinds.Sign signs.CloseParen)) c.in_err-expect.field-0.0
    c.requires (short_before (kinds.Sign signs.CloseParen) short_name) c.in_err-expect.ensures.fault)

pub returns-in_err-name-clause-fault : goal.returns-in_err-name-clause-fault
returns-in_err-name-clause-fault c =
    handed_on _ _ _ c.from_residual-in_err-name.ensures.1
    (missing_ending (ends_behind (kinds.Sign signs.OpenParen) c.args.tokens.now c.args.at (before identifier (kinds.Sign signs.CloseParen)) c.in_ok-expect.ensures.ok.1)
    c.in_err-name.field-0.0
    (missing_before (kinds.Sign signs.CloseParen) c.args.tokens.now (c.args.at + 1) identifier c.in_err-name.field-0.0 c.in_err-name.ensures.fault))

pub returns-in_err-expect-2-clause-fault : goal.returns-in_err-expect-2-clause-fault
returns-in_err-expect-2-clause-fault c =
    handed_on _ _ _ c.from_residual-in_err-expect-2.ensures.1
    (missing_ending (ends_behind (kinds.Sign signs.OpenParen) c.args.tokens.now c.args.at (before identifier (kinds.Sign signs.CloseParen)) c.in_ok-expect.ensures.ok.1)
    c.in_err-expect-2.field-0.0
    (missing_behind (kinds.Sign signs.CloseParen) c.args.tokens.now (c.args.at + 1) identifier c.in_err-expect-2.field-0.0 (local_identifier c.in_ok-name.name)
    c.in_ok-name.ensures.ok (rw (two c.args.at) at c.in_err-expect-2.ensures.fault)))

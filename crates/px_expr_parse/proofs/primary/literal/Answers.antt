use Rattle.std.proofs.Common.{◌≡◌, sym, ap, ◌∙◌, Some}
use Rattle.px_lex.specs.declared.token.TokenKind.{TokenKind}
use Rattle.px_expr_parse.proofs.Primaries.{read_literal}
use Rattle.px_expr_parse.proofs.Openings.{token_there}
use Rattle.px_expr_parse.specs.declared.opening.Opening.TheVariants as openings
use Rattle.px_expr_parse.proofs.primary.literal.Goals as goal

pub unreachable-requires : goal.unreachable-requires
unreachable-requires c =
    let there = token_there c.args.tokens.now c.args.from openings.Literal c.requires.begins in
    let same : Some c.args.kind.now ≡ Some there.0 = sym c.requires.token ∙ there.1 in
    let kind : c.args.kind.now ≡ there.0 = cc in
    (rw c.in-None.is at c.in_ok-value.ensures) there.2.0 (kind ∙ there.2.1)

pub returns-clause-ok : goal.returns-clause-ok
returns-clause-ok c =
    let kind = rw c.in-Some.is at c.in_ok-value.ensures in
    rw c.literal.ensures (read_literal c.args.tokens.now c.args.from c.in-Some.value c.requires.begins
    (c.requires.token ∙ ap (λ (k : TokenKind). Some k) kind) c.requires.place)

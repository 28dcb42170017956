-- A dot and the word of an attribute.
use Rattle.std.proofs.Common.{◌≡◌, ℕ, ◌+◌, ◌≤◌, ◌<◌, refl, sym, ◌∙◌, List, length, Some, arith}
use Rattle.px_lex.specs.declared.sign.Sign.TheVariants as signs
use Rattle.px_lex.specs.declared.token.Token.{Token}
use Rattle.px_lex.specs.declared.token.TokenKind.TheVariants as kinds
use Rattle.px_syntax.specs.declared.expr.Attribute.{Attribute as AttributeWord}
use Rattle.px_syntax.specs.declared.fault.ParseFault.{ParseFault}
use Rattle.px_syntax.specs.declared.fault.ParseFault.TheVariants as faults
use Rattle.px_syntax.specs.ExprGrammar.{attribute_word}
use Rattle.px_syntax.specs.Form.{kind_at}
use Rattle.px_expr_parse.specs.Tail.{attribute}
use Rattle.px_expr_parse.specs.Verdict.{IsMissing, HasSign, LacksSign}
use Rattle.px_expr_parse.proofs.Completions.{short_word, word}
use Rattle.px_expr_parse.proofs.Parts.{ends_behind, missing_ending, missing_here, missing_kind}

module _ (tokens : List Token) (at : ℕ) where
  pub no_dot :
      (fault : ParseFault) → at ≤ length tokens → LacksSign tokens at signs.Dot fault → IsMissing attribute tokens at fault
  no_dot fault within lacks = missing_kind (kinds.Sign signs.Dot) tokens at word fault within short_word lacks

  pub no_word :
      at < length tokens → HasSign tokens at signs.Dot
      → ((which : AttributeWord) → kind_at tokens (at + 1) ≡ Some (kinds.Identifier (attribute_word which)) → ⊥)
      → IsMissing attribute tokens at (faults.SyntaxFault (at + 1))
  no_word inside dot none =
      missing_ending (ends_behind (kinds.Sign signs.Dot) tokens at word dot) (faults.SyntaxFault (at + 1))
      (missing_here word tokens (at + 1) (faults.SyntaxFault (at + 1)) refl (omega (arith, inside)) short_word
      (λ others same which end o. none which (sym same ∙ o.0)))

-- Where numbers and literals are missing.
use Rattle.std.proofs.Common.{◌≡◌, ℕ, ℤ, ◌+◌, ◌≤◌, ◌⊎◌, inl, inr, refl, sym, ap, subst, ◌∙◌, pos, neg_ℤ, List, length, None, true}
use Rattle.px_lex.specs.declared.sign.Sign.TheVariants as signs
use Rattle.px_lex.specs.declared.token.Token.{Token}
use Rattle.px_lex.specs.declared.token.TokenKind.TheVariants as kinds
use Rattle.px_syntax.specs.declared.expr.Literal.TheVariants as literals
use Rattle.px_syntax.specs.declared.fault.ParseFault.{ParseFault}
use Rattle.px_syntax.specs.declared.fault.ParseFault.TheVariants as faults
use Rattle.px_syntax.specs.BlockGrammar.{literal, signed}
use Rattle.px_syntax.specs.Form.{kind_at, number}
use Rattle.px_plan_parse.specs.Part.{Anything, IsLacking}
use Rattle.px_plan_parse.specs.Tail.{priority}
use Rattle.px_plan_parse.proofs.Items.{literal_token}
use Rattle.px_plan_parse.proofs.Names.{makes_with_colon, makes_without_colon}
use Rattle.px_plan_parse.proofs.Parts.{HasKind, Makes, Splits, before, behind, lack_behind, lack_here, lack_made, makes_by}
use Rattle.px_plan_parse.proofs.Shortests.{short_literal, short_number, short_signed}

module _ (tokens : List Token) (from : ℕ) where
  pub no_number :
      from ≤ length tokens → ((value : ℕ) → HasKind tokens from (kinds.Integer (pos value)) → ⊥)
      → IsLacking number Anything tokens from (faults.SyntaxFault from)
  no_number within none = lack_here refl within short_number (λ others same value end o. none value (sym same ∙ o.0))

  pub no_signed :
      from ≤ length tokens → (HasKind tokens from (kinds.Sign signs.Minus) → ⊥)
      → ((value : ℤ) → HasKind tokens from (kinds.Integer value) → ⊥) → IsLacking signed Anything tokens from (faults.SyntaxFault from)
  no_signed within no_minus none = lack_here refl within short_signed (λ others same. neither others (sym same))
    where
      neither :
          (others : List Token) → kind_at tokens from ≡ kind_at others from → (value : ℤ) (end : ℕ) → signed value others from end → ⊥
      neither others same value end (inl o) = none value (same ∙ o.0)
      neither others same value end (inr o) = no_minus (same ∙ o.2.1.0)

  pub no_literal : from ≤ length tokens → kind_at tokens from ≡ None → IsLacking literal Anything tokens from (faults.SyntaxFault from)
  no_literal within nothing_is =
      lack_here refl within short_literal
      (λ others same value end o. elim (literal_token others from value end o) [
        | inl itself ↦ (let h = itself.0 in cc)
        | inr minus ↦ cc
      ])

  module _ (minus : HasKind tokens from (kinds.Sign signs.Minus)) where
    makes_signed : Makes signed (behind (kinds.Sign signs.Minus) number) (λ (size : ℕ). neg_ℤ (pos size)) tokens from
    makes_signed = makes_by (λ others size end o. inr (size, refl, o)) (λ others same. split others (same ∙ minus))
      where
        split :
            (others : List Token) → HasKind others from (kinds.Sign signs.Minus)
            → Splits signed (behind (kinds.Sign signs.Minus) number) (λ (size : ℕ). neg_ℤ (pos size)) others from
        split others there value end (inl o) = absurd (let h = o.0 in cc)
        split others there value end (inr o) = (o.0, o.1, o.2)

    makes_literal : Makes literal (behind (kinds.Sign signs.Minus) number) (λ (size : ℕ). literals.Integer (neg_ℤ (pos size))) tokens from
    makes_literal = makes_by (λ others size end o. inr (size, refl, o)) (λ others same. split others (same ∙ minus))
      where
        split :
            (others : List Token) → HasKind others from (kinds.Sign signs.Minus)
            → Splits literal (behind (kinds.Sign signs.Minus) number) (λ (size : ℕ). literals.Integer (neg_ℤ (pos size))) others from
        split others there (literals.Integer value) end (inl o) = absurd (let h = o.0 in cc)
        split others there (literals.Integer value) end (inr o) = (o.0, ap (λ (v : ℤ). literals.Integer v) o.1, o.2)
        split others there (literals.Boolean true) end o = absurd (let h = o.0 in cc)
        split others there value end o = absurd (let h = o.0 in cc)

    pub lack_signed : {fault : ParseFault} → IsLacking number Anything tokens (from + 1) fault → IsLacking signed Anything tokens from fault
    lack_signed f = lack_made makes_signed (lack_behind minus f)

    pub lack_literal : {fault : ParseFault} → IsLacking number Anything tokens (from + 1) fault → IsLacking literal Anything tokens from fault
    lack_literal f = lack_made makes_literal (lack_behind minus f)

  no_colon :
      (others : List Token) (place : ℕ) → HasKind others place (kinds.Sign signs.Colon) → (value : ℕ) (end : ℕ)
      → before number (kinds.Sign signs.Semicolon) value others place end → ⊥
  no_colon others place colon value end o = let h = o.1.0 in cc

  -- a priority, behind a colon or not
  pub lack_priority :
      (at : ℕ) {fault : ParseFault}
      → ((HasKind tokens from (kinds.Sign signs.Colon) × (at ≡ from + 1)) ⊎ ((HasKind tokens from (kinds.Sign signs.Colon) → ⊥) × (at ≡ from)))
      → IsLacking (before number (kinds.Sign signs.Semicolon)) Anything tokens at fault → IsLacking priority Anything tokens from fault
  lack_priority at {fault = fault} (inl given) f =
      lack_made (makes_with_colon (before number (kinds.Sign signs.Semicolon)) no_colon tokens from given.0)
      (lack_behind given.0 (subst (λ (p : ℕ). IsLacking (before number (kinds.Sign signs.Semicolon)) Anything tokens p fault) given.1 f))
  lack_priority at {fault = fault} (inr absent) f =
      lack_made (makes_without_colon (before number (kinds.Sign signs.Semicolon)) no_colon tokens from absent.0)
      (subst (λ (p : ℕ). IsLacking (before number (kinds.Sign signs.Semicolon)) Anything tokens p fault) absent.1 f)

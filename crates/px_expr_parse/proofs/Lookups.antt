-- What stands behind the name of a lookup: arguments, which may be left out, a tolerance, and the parenthesis.
use Rattle.std.proofs.Common.{◌≡◌, ℕ, ◌≤◌, inl, inr, refl, sym, subst, ◌∙◌, pos, List, length, Option, Some, None, arith}
use Rattle.px_lex.specs.declared.sign.Sign.TheVariants as signs
use Rattle.px_lex.specs.declared.token.Token.{Token}
use Rattle.px_lex.specs.declared.token.TokenKind.TheVariants as kinds
use Rattle.px_syntax.specs.declared.expr.Tolerance.{Tolerance}
use Rattle.px_syntax.specs.declared.fault.ParseFault.{ParseFault}
use Rattle.px_syntax.specs.declared.fault.ParseFault.TheVariants as faults
use Rattle.px_syntax.specs.declared.word.LookWord.{LookWord}
use Rattle.px_syntax.specs.declared.word.LookWord.TheVariants as looks
use Rattle.px_syntax.specs.Expr.{Terms, NoTerms, More}
use Rattle.px_syntax.specs.ExprGrammar.{look_end, tolerance_number}
use Rattle.px_syntax.specs.Form.{Form, kind_at}
use Rattle.px_expr_parse.specs.Tail.{closed_arguments, look_rest}
use Rattle.px_expr_parse.specs.Verdict.{Agree, AgreeBefore, IsMissing, HasSign, LacksSign}
use Rattle.px_expr_parse.proofs.Closed.{not_both}
use Rattle.px_expr_parse.proofs.Completions.{short_look_end, short_tolerance}
use Rattle.px_expr_parse.proofs.Parts.{before, behind, both, EndsWith, missing_here}

pub no_tolerance :
    (tokens : List Token) (at : ℕ) → at ≤ length tokens
    → ((value : ℕ) → kind_at tokens at ≡ Some (kinds.Integer (pos value)) → ⊥)
    → IsMissing tolerance_number tokens at (faults.SyntaxFault at)
no_tolerance tokens at within none =
    missing_here tolerance_number tokens at (faults.SyntaxFault at) refl within short_tolerance
    (λ others same part end o. none part.distance (sym same ∙ o.1.0))

-- ---- what closes a lookup

-- nothing closes a lookup where neither the comma before a tolerance nor the parenthesis stands
not_closed :
    (word : LookWord) (tokens : List Token) (place : ℕ) → (word ≡ looks.LookupOnChange → HasSign tokens place signs.Comma → ⊥)
    → (HasSign tokens place signs.CloseParen → ⊥) → (part : Option Tolerance) (end : ℕ) → look_end word part tokens place end → ⊥
not_closed word tokens place no_comma no_paren None end o = no_paren o.0
not_closed looks.Lookup tokens place no_comma no_paren (Some tolerance) end o = o
not_closed looks.LookupNow tokens place no_comma no_paren (Some tolerance) end o = o
not_closed looks.LookupOnChange tokens place no_comma no_paren (Some tolerance) end o = no_comma refl o.1.0

module _ (word : LookWord) (tokens : List Token) (from : ℕ) where
  pub missing_close :
      (fault : ParseFault) → from ≤ length tokens → (word ≡ looks.LookupOnChange → HasSign tokens from signs.Comma → ⊥)
      → LacksSign tokens from signs.CloseParen fault → IsMissing (look_end word) tokens from fault
  missing_close fault within no_comma lacks =
      missing_here (look_end word) tokens from fault lacks.0 within (short_look_end word)
      (λ others same. not_closed word others from (λ is has. no_comma is (sym same ∙ has)) (λ has. lacks.1 (sym same ∙ has)))

-- a comma, a tolerance and the parenthesis
abbrev pub behind_comma : Tolerance → Form
behind_comma = behind (kinds.Sign signs.Comma) (before tolerance_number (kinds.Sign signs.CloseParen))

pub ends_comma :
    (tokens : List Token) (from : ℕ) → HasSign tokens from signs.Comma
    → EndsWith (look_end looks.LookupOnChange) behind_comma (λ (tolerance : Tolerance). Some tolerance) tokens from from
ends_comma tokens from comma =
    record { begins = omega arith; builds = λ others agree tolerance end o. o; splits = splits }
  where
    splits :
        (others : List Token) → Agree tokens others from → (part : Option Tolerance) (end : ℕ)
        → look_end looks.LookupOnChange part others from end
        → (tolerance : Tolerance) × (part ≡ Some tolerance) × behind_comma tolerance others from end
    splits others agree None end o =
        absurd (not_both others from signs.CloseParen signs.Comma (λ e. cc) o.0 (agree from (omega arith) ∙ comma))
    splits others agree (Some tolerance) end o = (tolerance, refl, o)

-- ---- the arguments before it

-- nothing that closes a lookup begins with an opening parenthesis
closes_nothing :
    (word : LookWord) (tokens : List Token) (place : ℕ) → HasSign tokens place signs.OpenParen → (part : Option Tolerance) (end : ℕ)
    → look_end word part tokens place end → ⊥
closes_nothing word tokens place opening =
    not_closed word tokens place (λ is. not_both tokens place signs.OpenParen signs.Comma (λ e. cc) opening)
    (not_both tokens place signs.OpenParen signs.CloseParen (λ e. cc) opening)

-- arguments in parentheses, and what closes the lookup
abbrev pub given_rest : LookWord → Terms × Option Tolerance → Form
given_rest word = behind (kinds.Sign signs.OpenParen) (both closed_arguments (look_end word))

module _ (word : LookWord) (tokens : List Token) (from : ℕ) where
  pub ends_left_out :
      (HasSign tokens from signs.OpenParen → ⊥)
      → EndsWith (look_rest word) (look_end word) (λ (part : Option Tolerance). (NoTerms, part)) tokens from from
  ends_left_out no_opening =
      record { begins = omega arith; builds = λ others agree part end o. (from, inl refl, o); splits = splits }
    where
      splits :
          (others : List Token) → Agree tokens others from → (parts : Terms × Option Tolerance) (end : ℕ)
          → look_rest word parts others from end
          → (part : Option Tolerance) × (parts ≡ (NoTerms, part)) × look_end word part others from end
      splits others agree (NoTerms, part) end (middle, inl is, o) =
          (part, refl, subst (λ (place : ℕ). look_end word part others place end) is o)
      splits others agree (NoTerms, part) end (middle, inr given, o) =
          absurd (no_opening (sym (agree from (omega arith)) ∙ given.1.0))
      splits others agree (More first rest, part) end (middle, given, o) =
          absurd (no_opening (sym (agree from (omega arith)) ∙ given.1.0))

  pub ends_given :
      HasSign tokens from signs.OpenParen
      → EndsWith (look_rest word) (given_rest word) (λ (parts : Terms × Option Tolerance). parts) tokens from from
  ends_given opening = record { begins = omega arith; builds = builds; splits = splits }
    where
      builds :
          (others : List Token) → AgreeBefore tokens others from → (parts : Terms × Option Tolerance) (end : ℕ)
          → given_rest word parts others from end → look_rest word parts others from end
      builds others agree (NoTerms, part) end o = (o.2.0, inr (o.0, o.1, o.2.1), o.2.2)
      builds others agree (More first rest, part) end o = (o.2.0, (o.0, o.1, o.2.1), o.2.2)

      splits :
          (others : List Token) → Agree tokens others from → (parts : Terms × Option Tolerance) (end : ℕ)
          → look_rest word parts others from end
          → (same : Terms × Option Tolerance) × (parts ≡ same) × given_rest word same others from end
      splits others agree (NoTerms, part) end (middle, inl is, o) =
          absurd (closes_nothing word others from (agree from (omega arith) ∙ opening) part end
          (subst (λ (place : ℕ). look_end word part others place end) is o))
      splits others agree (NoTerms, part) end (middle, inr given, o) =
          ((NoTerms, part), refl, (given.0, given.1, (middle, given.2, o)))
      splits others agree (More first rest, part) end (middle, given, o) =
          ((More first rest, part), refl, (given.0, given.1, (middle, given.2, o)))

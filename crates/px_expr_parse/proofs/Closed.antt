-- Signs that close expressions.
use Rattle.std.proofs.Common.{◌≡◌, ℕ, refl, sym, ap, ◌∙◌, List, None, true, false}
use Rattle.px_lex.specs.declared.sign.Sign.{Sign}
use Rattle.px_lex.specs.declared.sign.Sign.TheVariants as signs
use Rattle.px_lex.specs.declared.token.Token.{Token}
use Rattle.px_lex.specs.declared.token.TokenKind.TheVariants as kinds
use Rattle.px_syntax.specs.Operator.{binary_of}
use Rattle.px_expr_parse.specs.Tail.{is_closer}
use Rattle.px_expr_parse.specs.Verdict.{GoesOn, operation, index, attribute, HasSign}
use Rattle.px_expr_parse.proofs.Parts.{IsClosing, alone}

-- two signs don't stand at one place
pub not_both : (tokens : List Token) (place : ℕ) (a b : Sign) → (a ≡ b → ⊥) → HasSign tokens place a → HasSign tokens place b → ⊥
not_both tokens place a b differ has_a has_b = differ (let e : a ≡ b = cc in e)

no_operator : (which : Sign) → is_closer which ≡ true → binary_of (kinds.Sign which) ≡ None
unfolding binary_of
no_operator signs.CloseParen e = refl
no_operator signs.CloseBracket e = refl
no_operator signs.Comma e = refl
no_operator signs.Semicolon e = refl
no_operator which e = absurd cc

-- no expression goes on with a sign that closes
pub closer_ends :
    (tokens : List Token) (place : ℕ) (which : Sign) → is_closer which ≡ true → HasSign tokens place which
    → GoesOn 0 tokens place → ⊥
closer_ends tokens place which closer has (operation operator is allowed) = let e = no_operator which closer in cc
closer_ends tokens place which closer has (index is) =
    not_both tokens place which signs.OpenBracket (λ e. let f : false ≡ true = sym (ap is_closer e) ∙ closer in cc) has is
closer_ends tokens place which closer has (attribute is) =
    not_both tokens place which signs.Dot (λ e. let f : false ≡ true = sym (ap is_closer e) ∙ closer in cc) has is

pub closes : (which : Sign) → is_closer which ≡ true → IsClosing (alone (kinds.Sign which))
closes which closer tokens none from end o = closer_ends tokens from which closer o.0

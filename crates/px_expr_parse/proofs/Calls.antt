-- A name before a parenthesis: as an expression it ends there.
use Rattle.std.proofs.Common.{◌≡◌, ℕ, ◌+◌, ◌≤◌, ◌<◌, inl, inr, refl, sym, ap, subst, ◌∙◌, List, length, Some, None, arith, lit≤}
use Rattle.std.proofs.lemmas.Option.{slice_get_within}
use Rattle.std.specs.List.{slice_get}
use Rattle.std.specs.Option.{option_and_then}
use Rattle.px_value.proofs.General.{option_map_some}
use Rattle.px_lex.specs.declared.sign.Sign.TheVariants as signs
use Rattle.px_lex.specs.declared.token.Token.{Token}
use Rattle.px_lex.specs.declared.token.TokenKind.{TokenKind}
use Rattle.px_lex.specs.declared.token.TokenKind.TheVariants as kinds
use Rattle.px_syntax.specs.declared.expr.Identifier.{Identifier}
use Rattle.px_syntax.specs.Expr.{Term}
use Rattle.px_syntax.specs.ExprGrammar.{expression}
use Rattle.px_syntax.specs.Form.{identifier, kind_at}
use Rattle.px_syntax.specs.Operator.{binary_of, unary_of}
use Rattle.px_expr_parse.specs.declared.opening.Opening.TheVariants as openings
use Rattle.px_expr_parse.specs.Opening.{Begins}
use Rattle.px_expr_parse.specs.Verdict.{HasSign, IsFound}
use Rattle.px_expr_parse.proofs.Closed.{closer_ends}
use Rattle.px_expr_parse.proofs.Loops.{loop_begins, loop_ends}
use Rattle.px_expr_parse.proofs.Openings.{opening_of_name}
use Rattle.px_expr_parse.proofs.Primaries.{begins_with, read_variable}

-- what is at a place is within
pub inside_of : (tokens : List Token) (place : ℕ) (kind : TokenKind) → kind_at tokens place ≡ Some kind → place < length tokens
inside_of tokens place kind has =
    let found = option_map_some (λ (token : Token). token.kind) (slice_get tokens place) kind has in
    slice_get_within tokens place found.0 found.1

abbrev name_of : List ℕ → ℕ → Identifier
name_of name token = record { name = name; token = token }

paren_no_operator : binary_of (kinds.Sign signs.OpenParen) ≡ None
unfolding binary_of
paren_no_operator = refl

name_no_operator : (name : List ℕ) → unary_of (kinds.Identifier name) ≡ None
unfolding unary_of
name_no_operator name = refl

module _ (others : List Token) (from : ℕ) (name : List ℕ) (has : kind_at others from ≡ Some (kinds.Identifier name))
    (within : from + 1 ≤ length others)
  where
    found_name : IsFound identifier others from (record { name = name; token = from }) (from + 1)
    found_name =
        record {
          advances = omega arith;
          within = within;
          only = λ more agree.
              let there : kind_at more from ≡ Some (kinds.Identifier name) = agree from (omega arith) ∙ has in
              record {
                spelled = (refl, (there, refl));
                only = λ other end o.
                    let same : other.name ≡ name = let h = o.1.0 in cc in (
                      ap (λ (n : List ℕ). name_of n other.token) same ∙ ap (λ (t : ℕ). name_of name t) o.0,
                      o.1.1,
                    );
              };
        }

    opens : Begins others from openings.Name
    opens =
        begins_with others from (kinds.Identifier name) openings.Name has (sym (opening_of_name name))
        (ap (option_and_then unary_of) has ∙ name_no_operator name)

    pub no_value :
        HasSign others (from + 1) signs.OpenParen → (tree : Term) (end : ℕ) → expression tree others from end
        → HasSign others end signs.Semicolon → ⊥
    no_value paren tree end o semicolon =
        let variable = read_variable others from (record { name = name; token = from }) opens found_name (λ is. cc) (λ is. cc) in
        let read = loop_ends (loop_begins {floor = 0} (lit≤ tt) variable)
        (λ operator is. absurd (let none = ap (option_and_then binary_of) paren ∙ paren_no_operator in cc)) in
        elim ((read.longest others (λ place le. refl)).only tree end o) [
          | inl same ↦
              let there : HasSign others end signs.OpenParen =
              subst (λ (p : ℕ). HasSign others p signs.OpenParen) (sym same.1) paren in
              cc
          | inr ends ↦ closer_ends others end signs.Semicolon refl semicolon ends.1
        ]

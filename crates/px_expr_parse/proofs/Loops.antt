-- The operators of an operation, one after another, in all tokens that agree.
use Rattle.std.proofs.Common.{◌≡◌, ℕ, ◌+◌, ◌≤◌, ◌<◌, inl, inr, refl, sym, ap, subst, ◌∙◌, List, length, Some, arith}
use Rattle.std.specs.Option.{option_and_then}
use Rattle.px_lex.specs.declared.sign.Sign.TheVariants as signs
use Rattle.px_lex.specs.declared.token.Token.{Token}
use Rattle.px_syntax.specs.declared.fault.ParseFault.{ParseFault}
use Rattle.px_syntax.specs.declared.fault.ParseFault.TheVariants as faults
use Rattle.px_syntax.specs.declared.operator.BinaryOperator.{BinaryOperator}
use Rattle.px_syntax.specs.Expr.{Term, Binary}
use Rattle.px_syntax.specs.Operator.{binary_of}
use Rattle.px_syntax.specs.ExprGrammar.{binary_at}
use Rattle.px_expr_parse.specs.Verdict.{Agree, GoesOn, operation, index, attribute, IsLongest, IsRead, IsRefused, IsExpression, IsFaultAt, IsNoExpression, HasSign}
use Rattle.px_expr_parse.proofs.Chains.{IsSpine, level, operand_looser, spine_begins, spine_goes_on, spine_ends, spine_stops, first_stops}
use Rattle.px_expr_parse.proofs.Completions.{before, begins_expression, begun_as, begun_whole, moved}
use Rattle.px_expr_parse.proofs.Parts.{agree_before}
use Rattle.px_expr_parse.proofs.Spans.{local_expression, local_operand}

pub record HasSpine (floor : ℕ) (tokens : List Token) (from : ℕ) (left : Term) (at : ℕ) : Type 0 where
  pub advances : from < at
  pub within : at ≤ length tokens
  pub spine : (others : List Token) → Agree tokens others at → IsSpine floor others from left at

module _ (floor : ℕ) (tokens : List Token) (from : ℕ) where
  pub loop_refused : (fault : ParseFault) → floor ≤ 8 → IsRefused 8 tokens from fault → IsRefused floor tokens from fault
  loop_refused (faults.SyntaxFault token) le g = (
    g.0,
    g.1,
    λ others agree. first_stops floor others from token le (g.2 others agree),
    begun_as g.3 (λ others agree end tree o. (tree, operand_looser floor 8 tree from end le o)),
  )
  loop_refused (faults.Deep token) le g = g
  loop_refused faults.NoMemory le g = g

module _ {floor : ℕ} {tokens : List Token} {from : ℕ} where
  pub loop_begins : {first : Term} {at : ℕ} → floor ≤ 8 → IsRead 8 tokens from first at → HasSpine floor tokens from first at
  loop_begins {first = first} {at = at} le read =
      record {
        advances = read.advances;
        within = read.within;
        spine = λ others agree. spine_begins floor others from first at le (read.longest others agree);
      }

  module _ {left : Term} {at : ℕ} (so_far : HasSpine floor tokens from left at) where
    -- the operator there in other tokens that agree
    there :
        (others : List Token) (last : ℕ) → at ≤ last → Agree tokens others last → (operator : BinaryOperator)
        → binary_at tokens at ≡ Some operator → binary_at others at ≡ Some operator
    there others last le agree operator is = ap (option_and_then binary_of) (agree at le) ∙ is

    -- no operator of the level
    pub loop_ends :
        ((operator : BinaryOperator) → binary_at tokens at ≡ Some operator → level operator < floor)
        → IsRead floor tokens from left at
    loop_ends ended =
        record {
          advances = so_far.advances;
          within = so_far.within;
          longest = λ others agree.
              spine_ends floor others from left at (so_far.spine others agree)
              (λ operator is. ended operator (sym (ap (option_and_then binary_of) (agree at (omega arith))) ∙ is));
        }

    module _ (next : BinaryOperator) (is : binary_at tokens at ≡ Some next) (allowed : floor ≤ level next) where
      pub loop_goes_on :
          {right : Term} {to : ℕ} → IsRead (level next + 1) tokens (at + 1) right to
          → HasSpine floor tokens from (Binary next left right) to
      loop_goes_on {right = right} {to = to} read =
          record {
            advances = omega (arith, so_far.advances, read.advances);
            within = read.within;
            spine = λ others agree.
                spine_goes_on floor others from left at next right to
                (so_far.spine others (agree_before tokens others at to (omega (arith, read.advances)) agree))
                (there others to (omega (arith, read.advances)) agree next is) allowed (omega (arith, read.advances))
                (read.longest others agree);
          }

      pub loop_stops :
          (fault : ParseFault) → IsRefused (level next + 1) tokens (at + 1) fault → IsRefused floor tokens from fault
      loop_stops (faults.SyntaxFault token) g = (
        omega (arith, so_far.advances, g.0),
        g.1,
        λ others agree.
            spine_stops floor others from left at next token
            (so_far.spine others (agree_before tokens others at token (omega (arith, g.0)) agree))
            (there others token (omega (arith, g.0)) agree next is) allowed (omega (arith, g.0))
            (g.2 others agree),
        begun_as g.3 (λ others agree end right o. (
          Binary next left right,
          (
            0,
            λ z. allowed,
            (
              at,
              moved tokens (local_operand (level next) left) (λ more agree. (so_far.spine more agree).tight next (there more at (omega arith) agree next is))
                  others (before tokens others at token (omega (arith, g.0)) agree),
              (at + 1, (ap (option_and_then binary_of) (agree at (omega (arith, g.0))) ∙ is, refl), o),
            ),
          ),
        )),
      )
      loop_stops (faults.Deep token) g = g
      loop_stops faults.NoMemory g = g

-- ---- the whole

pub is_no_expression :
    (tokens : List Token) (from : ℕ) (fault : ParseFault) → IsRefused 0 tokens from fault → IsNoExpression tokens from fault
is_no_expression tokens from (faults.SyntaxFault token) g =
    record {
      within = g.1;
      none = λ tree end o. (g.2 tokens (λ place le. refl) tree end o).1;
      begun = begins_expression tokens from token g.1 g.3;
      beyond = λ others agree inside tree end o. (g.2 others agree tree end o).0;
    }
is_no_expression tokens from (faults.Deep token) g = g
is_no_expression tokens from faults.NoMemory g = g

module _ {tokens : List Token} {from : ℕ} where
  pub is_expression :
      {tree : Term} {to : ℕ} → IsRead 0 tokens from tree to
      → (HasSign tokens to signs.OpenBracket → ⊥) → (HasSign tokens to signs.Dot → ⊥)
      → IsExpression tokens from tree to
  is_expression {tree = tree} {to = to} read no_bracket no_dot =
      let longest = read.longest tokens (λ place le. refl) in
      record {
        advances = read.advances;
        within = read.within;
        spelled = longest.spelled;
        only = λ other o. elim (longest.only other to o) [ inl same ↦ same.0 | inr ends ↦ absurd (omega (arith, ends.0)) ];
        longest = λ other end o. elim (longest.only other end o) [
          | inl same ↦ omega (arith, same.1)
          | inr ends ↦ omega (arith, ends.0)
        ];
        ended = ended longest;
      }
    where
      ended : IsLongest 0 tokens from tree to → GoesOn 0 tokens to → ⊥
      ended longest (operation operator is allowed) = absurd (omega (arith, longest.ended operator is))
      ended longest (index is) = no_bracket is
      ended longest (attribute is) = no_dot is

  -- a bracket or a dot behind an expression, in all tokens that agree
  pub is_refused :
      {tree : Term} {to : ℕ} → IsRead 0 tokens from tree to → GoesOn 0 tokens to
      → IsRefused 0 tokens from (faults.SyntaxFault to)
  is_refused {tree = tree} {to = to} read follows = (
    omega (arith, read.advances),
    read.within,
    λ others agree other end o. elim ((read.longest others agree).only other end o) [
      | inl same ↦
          (omega (arith, same.1), subst (λ (place : ℕ). GoesOn 0 others place) (sym same.1) (goes_on_too others agree follows))
      | inr ends ↦ (omega (arith, ends.0), ends.1)
    ],
    begun_whole tree (local_expression tree) (read.longest tokens (λ place le. refl)).spelled,
  )
    where
      goes_on_too : (others : List Token) → Agree tokens others to → GoesOn 0 tokens to → GoesOn 0 others to
      goes_on_too others agree (operation operator is allowed) =
          operation operator (ap (option_and_then binary_of) (agree to (omega arith)) ∙ is) allowed
      goes_on_too others agree (index is) = index (agree to (omega arith) ∙ is)
      goes_on_too others agree (attribute is) = attribute (agree to (omega arith) ∙ is)

  pub is_followed :
      {tree : Term} {to : ℕ} → IsRead 0 tokens from tree to → GoesOn 0 tokens to
      → IsFaultAt tokens from to
  is_followed {to = to} read follows = is_no_expression tokens from (faults.SyntaxFault to) (is_refused read follows)

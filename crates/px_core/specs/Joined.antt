-- Terms joined by an operator, in halves, so that no expression of many terms is deep.
use Rattle.std.specs.Prelude.{◌≡◌, ℕ, zero, suc, ◌/◌, ◌≤◌, Bool, List, [], ◌∷◌, ◌++◌, length, take, drop}
use Rattle.px_value.specs.declared.value.Value.TheVariants as values
use Rattle.px_core.specs.declared.expr.BinaryOp.{BinaryOp}
use Rattle.px_core.specs.Expr.{Term, Literal, Binary}

abbrev pub truth : Bool → Term
truth holds = Literal (values.Boolean holds)

-- A term that joins others by an operator: no term is joined to a literal, and one to itself; more are joined to the operator
-- between what joins their first half, rounded down, and what joins the rest.
pub data Joins (op : BinaryOp) (none : Bool) : List Term → Term → Type 0 where
  no_term : Joins op none [] (truth none)
  one_term : (term : Term) → Joins op none (term ∷ []) term
  halves :
      (front rest : List Term) (left right : Term) → 1 ≤ length front → length front ≡ length (front ++ rest) / 2
      → Joins op none front left → Joins op none rest right → Joins op none (front ++ rest) (Binary op left right)

-- The term that joins others, by recursion on how many there may be; `laws::joining` says that it is the one that does.
abbrev pub joined_within : BinaryOp → Bool → ℕ → List Term → Term
joined_within op none bound [] = truth none
joined_within op none bound (term ∷ []) = term
joined_within op none zero (one ∷ other ∷ more) = truth none
joined_within op none (suc bound) (one ∷ other ∷ more) =
    Binary op
    (joined_within op none bound (take (length (one ∷ other ∷ more) / 2) (one ∷ other ∷ more)))
    (joined_within op none bound (drop (length (one ∷ other ∷ more) / 2) (one ∷ other ∷ more)))

unfoldable pub joined : BinaryOp → Bool → List Term → Term
joined op none terms = joined_within op none (length terms) terms

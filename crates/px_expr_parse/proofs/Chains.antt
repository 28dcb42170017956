-- Operations that go on from a first operand.
use Rattle.std.proofs.Common.{◌≡◌, ℕ, zero, suc, ◌+◌, ◌≤◌, ◌<◌, ◌⊎◌, inl, inr, refl, sym, ap, subst, List, Some, None, arith, lit≤}
use Rattle.px_lex.specs.declared.sign.Sign.TheVariants as signs
use Rattle.px_lex.specs.declared.token.Token.{Token}
use Rattle.px_lex.specs.declared.token.TokenKind.TheVariants as kinds
use Rattle.px_syntax.specs.declared.operator.BinaryOperator.{BinaryOperator}
use Rattle.px_syntax.specs.declared.operator.Operator.TheVariants as operators
use Rattle.px_syntax.specs.ExprGrammar.{operand, bare, binary_at}
use Rattle.px_syntax.specs.Operator.{binary_of, level_of}
use Rattle.px_syntax.specs.Expr.{Term, Unary, Binary}
use Rattle.px_expr_parse.specs.Verdict.{GoesOn, operation, index, attribute, IsLongest, IsCutShort}
use Rattle.px_syntax.proofs.Levels.{binary_level, unary_level}

abbrev pub level : BinaryOperator → ℕ
level operator = level_of (operators.Binary operator)

-- what may stand where an operand of a tight level may, may stand where one of a looser level may
pub operand_looser :
    {tokens : List Token} (loose tight : ℕ) (tree : Term) (from to : ℕ) → loose ≤ tight
    → operand tight tree tokens from to → operand loose tree tokens from to
operand_looser loose tight tree from to le o = (o.0, λ bare. omega (arith, o.1 bare), o.2)

pub goes_on_looser :
    {tokens : List Token} {place : ℕ} (loose tight : ℕ) → loose ≤ tight
    → GoesOn tight tokens place → GoesOn loose tokens place
goes_on_looser loose tight le (operation operator is allowed) = operation operator is (omega arith)
goes_on_looser loose tight le (index is) = index is
goes_on_looser loose tight le (attribute is) = attribute is

bracket_is_none : binary_of (kinds.Sign signs.OpenBracket) ≡ None
unfolding binary_of
bracket_is_none = refl

dot_is_none : binary_of (kinds.Sign signs.Dot) ≡ None
unfolding binary_of
dot_is_none = refl

-- an operator that is looser than all with which an expression goes on there
pub not_looser :
    {tokens : List Token} {place : ℕ} (floor : ℕ) (operator : BinaryOperator) → level operator < floor
    → binary_at tokens place ≡ Some operator → GoesOn floor tokens place → ⊥
not_looser floor operator looser is (operation other other_is allowed) =
    let same : other ≡ operator = cc in
    let levels : level other ≡ level operator = ap level same in
    absurd (omega arith)
not_looser floor operator looser is (index at) = let e = bracket_is_none in cc
not_looser floor operator looser is (attribute at) = let e = dot_is_none in cc

-- A tree that comes of `left`, which ends at a place, by operations of at least a level on its left spine.
pub data Grown (tokens : List Token) (left : Term) (at : ℕ) : ℕ → Term → ℕ → Type 0 where
  here : {floor : ℕ} → Grown tokens left at floor left at
  more :
      {floor : ℕ} (operator : BinaryOperator) (first second : Term) (middle end : ℕ)
      → floor ≤ level operator
      → Grown tokens left at (level operator) first middle
      → binary_at tokens middle ≡ Some operator
      → operand (level operator + 1) second tokens (middle + 1) end
      → Grown tokens left at floor (Binary operator first second) end

-- the same tree that ends there
abbrev pub Same : Term → ℕ → Term → ℕ → Type 0
Same left at tree end = (tree ≡ left) × (end ≡ at)

-- an operator at the place that is at least of a level
abbrev pub Operates : List Token → ℕ → ℕ → Type 0
Operates tokens at floor =
    (operator : BinaryOperator) × (binary_at tokens at ≡ Some operator) × (floor ≤ level operator)

-- a tree that has grown has an operator behind what it grew from
pub begins :
    {tokens : List Token} {left : Term} {at floor : ℕ} {tree : Term} {end : ℕ}
    → Grown tokens left at floor tree end → Same left at tree end ⊎ Operates tokens at floor
begins here = inl (refl, refl)
begins {tokens = tokens} {at = at} (more operator first second middle end allowed before is right) =
    elim (begins before) [
      | inl same ↦ inr (operator, subst (λ (place : ℕ). binary_at tokens place ≡ Some operator) same.1 is, allowed)
      | inr found ↦ inr (found.0, found.1, omega (arith, found.2))
    ]

-- each tree is an operand before which no operator between operands stands bare, and operations on it
pub record Spine (tokens : List Token) (from floor : ℕ) (tree : Term) (end : ℕ) : Type 0 where
  pub first : Term
  pub middle : ℕ
  pub stands : operand 8 first tokens from middle
  pub grown : Grown tokens first middle floor tree end

alone :
    {tokens : List Token} (from floor : ℕ) (tree : Term) (end : ℕ)
    → operand 8 tree tokens from end → Spine tokens from floor tree end
alone from floor tree end o = record { first = tree; middle = end; stands = o; grown = here }

pub spine :
    {tokens : List Token} (from : ℕ) (tree : Term) (floor end : ℕ)
    → operand floor tree tokens from end → Spine tokens from floor tree end
spine from (Unary operator token argument) floor end (pairs, free, inside) =
    alone from floor (Unary operator token argument) end
    (pairs, λ z. omega (arith, unary_level operator), inside)
spine from (Binary operator left right) floor end (suc pairs, free, inside) =
    alone from floor (Binary operator left right) end (suc pairs, λ z. absurd (omega arith), inside)
spine {tokens = tokens} from (Binary operator left right) floor end (zero, free, inside) =
    let rest = spine from left (level operator) inside.0 inside.1 in
    let next : inside.2.0 ≡ inside.0 + 1 = inside.2.1.1 in
    record {
      first = rest.first;
      middle = rest.middle;
      stands = rest.stands;
      grown =
          more operator left right inside.0 end (free refl) rest.grown inside.2.1.0
          (subst (λ (place : ℕ). operand (level operator + 1) right tokens place end) next inside.2.2);
    }
spine from tree floor end (pairs, free, inside) = alone from floor tree end (pairs, λ z. lit≤ tt, inside)

-- What is read of the operand behind the next operator: it is this one, or it ends early where an expression goes on.
abbrev pub Only : List Token → ℕ → ℕ → Term → ℕ → Type 0
Only tokens floor from tree to =
    (other : Term) (end : ℕ) → operand floor other tokens from end
    → Same tree to other end ⊎ ((end < to) × GoesOn floor tokens end)

-- A tree grown from `left` is `left`; or it ends early, inside the next operand; or it has grown from the next operation.
pub data Growth (tokens : List Token) (left : Term) (at : ℕ) (next : BinaryOperator) (whole : Term) (to floor : ℕ) (tree : Term) (end : ℕ) : Type 0 where
  unchanged : tree ≡ left → end ≡ at → Growth tokens left at next whole to floor tree end
  early : end < to → GoesOn (level next + 1) tokens end → floor ≤ level next → Growth tokens left at next whole to floor tree end
  grown : Grown tokens whole to floor tree end → Growth tokens left at next whole to floor tree end

module _ (tokens : List Token) (left : Term) (at : ℕ) (next : BinaryOperator) (is : binary_at tokens at ≡ Some next) where
  -- the operand behind an operator that follows `left` itself
  behind :
      (operator : BinaryOperator) (second : Term) (middle end : ℕ) → middle ≡ at
      → binary_at tokens middle ≡ Some operator
      → operand (level operator + 1) second tokens (middle + 1) end
      → (operator ≡ next) × operand (level next + 1) second tokens (at + 1) end
  behind operator second middle end place_is other_is o =
      let there : binary_at tokens at ≡ Some operator = subst (λ (place : ℕ). binary_at tokens place ≡ Some operator) place_is other_is in
      let same : operator ≡ next = cc in
      let moved : operand (level operator + 1) second tokens (at + 1) end =
      subst (λ (place : ℕ). operand (level operator + 1) second tokens (place + 1) end) place_is o in
      (same, subst (λ (o : BinaryOperator). operand (level o + 1) second tokens (at + 1) end) same moved)

  module _ (right : Term) (to : ℕ) (only : Only tokens (level next + 1) (at + 1) right to) where
    first_of : {floor : ℕ} (operator : BinaryOperator) (first second : Term) (middle end : ℕ)
        → floor ≤ level operator → first ≡ left → operator ≡ next
        → Same right to second end ⊎ ((end < to) × GoesOn (level next + 1) tokens end)
        → Growth tokens left at next (Binary next left right) to floor (Binary operator first second) end
    first_of {floor = floor} operator first second middle end allowed same_first same_operator found =
        let levels : level operator ≡ level next = ap level same_operator in
        elim found [
          | inl same ↦
              grown (subst (λ (place : ℕ). Grown tokens (Binary next left right) to floor (Binary operator first second) place) (sym same.1)
              (subst (λ (tree : Term). Grown tokens (Binary next left right) to floor tree to)
              (sym (let e : second ≡ right = same.0 in let tree : Binary operator first second ≡ Binary next left right = cc in tree)) here))
          | inr ends ↦ early ends.0 ends.1 (omega arith)
        ]

    pub grow :
        {floor : ℕ} {tree : Term} {end : ℕ} → Grown tokens left at floor tree end
        → Growth tokens left at next (Binary next left right) to floor tree end
    grow here = unchanged refl refl
    grow {floor = floor} (more operator first second middle end allowed before other_is o) =
        elim (grow before) [
          | unchanged same_first same_place ↦
              let there = behind operator second middle end same_place other_is o in
              first_of operator first second middle end allowed same_first there.0 (only second end there.1)
          | early ends goes looser ↦ absurd (not_looser (level next + 1) operator (omega arith) other_is goes)
          | grown found ↦ grown (more operator first second middle end allowed found other_is o)
        ]

  module _ (last : ℕ) (cut : IsCutShort (level next + 1) tokens (at + 1) last) where
    pub stop :
        {floor : ℕ} {tree : Term} {end : ℕ} → Grown tokens left at floor tree end
        → Same left at tree end ⊎ ((end ≤ last) × GoesOn (level next + 1) tokens end × (floor ≤ level next))
    stop here = inl (refl, refl)
    stop (more operator first second middle end allowed before other_is o) =
        elim (stop before) [
          | inl same ↦
              let there = behind operator second middle end same.1 other_is o in
              let levels : level operator ≡ level next = ap level there.0 in
              let found = cut second end there.1 in
              inr (found.0, found.1, omega arith)
          | inr found ↦
              let looser : level operator ≤ level next = found.2 in
              absurd (not_looser (level next + 1) operator (omega arith) other_is found.1)
        ]

-- All that is read from a place comes of the tree so far, or ends before its end, where an expression goes on. The tree
-- may stand to the left of each operator behind it.
pub record IsSpine (floor : ℕ) (tokens : List Token) (from : ℕ) (left : Term) (at : ℕ) : Type 0 where
  pub spelled : operand floor left tokens from at
  pub tight :
      (operator : BinaryOperator) → binary_at tokens at ≡ Some operator
      → operand (level operator) left tokens from at
  pub only :
      (other : Term) (end : ℕ) → operand floor other tokens from end
      → ((end < at) × GoesOn floor tokens end) ⊎ Grown tokens left at floor other end

module _ (floor : ℕ) (tokens : List Token) (from : ℕ) where
  -- a first operand, which is read by itself
  pub spine_begins :
      (first : Term) (at : ℕ) → floor ≤ 8 → IsLongest 8 tokens from first at
      → IsSpine floor tokens from first at
  spine_begins first at le read =
      record {
        spelled = operand_looser floor 8 first from at le read.spelled;
        tight = λ operator is. operand_looser (level operator) 8 first from at (omega (arith, (binary_level operator).1)) read.spelled;
        only = λ other end o. from_first (spine from other floor end o);
      }
    where
      moved : {other : Term} {end : ℕ} (start : Term) (middle : ℕ) → start ≡ first → middle ≡ at
          → Grown tokens start middle floor other end → Grown tokens first at floor other end
      moved {other = other} {end = end} start middle same here_is g =
          subst (λ (place : ℕ). Grown tokens first place floor other end) here_is
          (subst (λ (tree : Term). Grown tokens tree middle floor other end) same g)

      from_first : {other : Term} {end : ℕ} → Spine tokens from floor other end
          → ((end < at) × GoesOn floor tokens end) ⊎ Grown tokens first at floor other end
      from_first {other = other} {end = end} s =
          elim (read.only s.first s.middle s.stands) [
            | inl same ↦ inr (moved s.first s.middle same.0 same.1 s.grown)
            | inr ends ↦
                elim (begins s.grown) [
                  | inl same ↦
                      inl (
                        omega (arith, ends.0, same.1),
                        goes_on_looser floor 8 le (subst (λ (place : ℕ). GoesOn 8 tokens place) (sym same.1) ends.1),
                      )
                  | inr found ↦ absurd (not_looser 8 found.0 (omega (arith, (binary_level found.0).1)) found.1 ends.1)
                ]
          ]

  -- an operator and its right operand
  pub spine_goes_on :
      (left : Term) (at : ℕ) (next : BinaryOperator) (right : Term) (to : ℕ)
      → IsSpine floor tokens from left at → binary_at tokens at ≡ Some next → floor ≤ level next
      → at < to → IsLongest (level next + 1) tokens (at + 1) right to
      → IsSpine floor tokens from (Binary next left right) to
  spine_goes_on left at next right to so_far is allowed longer read =
      record {
        spelled = (0, λ z. allowed, whole);
        tight = λ operator operator_is. (0, λ z. omega (arith, read.ended operator operator_is), whole);
        only = λ other end o. elim (so_far.only other end o) [
          | inl ends ↦ inl (omega (arith, ends.0), ends.1)
          | inr g ↦ of_growth (grow tokens left at next is right to read.only g)
        ];
      }
    where
      whole : bare (Binary next left right) tokens from to
      whole = (at, so_far.tight next is, (at + 1, (is, refl), read.spelled))

      of_growth : {other : Term} {end : ℕ} → Growth tokens left at next (Binary next left right) to floor other end
          → ((end < to) × GoesOn floor tokens end) ⊎ Grown tokens (Binary next left right) to floor other end
      of_growth (unchanged same_tree same_place) =
          inl (
            omega (arith, same_place),
            subst (λ (place : ℕ). GoesOn floor tokens place) (sym same_place) (operation next is allowed),
          )
      of_growth (early ends goes looser) = inl (ends, goes_on_looser floor (level next + 1) (omega (arith, allowed)) goes)
      of_growth (grown g) = inr g

  -- no further operator of the level
  pub spine_ends :
      (left : Term) (at : ℕ) → IsSpine floor tokens from left at
      → ((operator : BinaryOperator) → binary_at tokens at ≡ Some operator → level operator < floor)
      → IsLongest floor tokens from left at
  spine_ends left at so_far ended =
      record {
        spelled = so_far.spelled;
        only = λ other end o. elim (so_far.only other end o) [
          | inl ends ↦ inr ends
          | inr g ↦ elim (begins g) [
            | inl same ↦ inl same
            | inr found ↦ absurd (omega (arith, ended found.0 found.1, found.2))
          ]
        ];
        ended = ended;
      }

  -- an operator whose right operand is refused
  pub spine_stops :
      (left : Term) (at : ℕ) (next : BinaryOperator) (last : ℕ)
      → IsSpine floor tokens from left at → binary_at tokens at ≡ Some next → floor ≤ level next
      → at < last + 1 → IsCutShort (level next + 1) tokens (at + 1) last
      → IsCutShort floor tokens from last
  spine_stops left at next last so_far is allowed longer cut other end o =
      elim (so_far.only other end o) [
        | inl ends ↦ (omega (arith, ends.0), ends.1)
        | inr g ↦ elim (stop tokens left at next is last cut g) [
          | inl same ↦ (
            omega (arith, same.1),
            subst (λ (place : ℕ). GoesOn floor tokens place) (sym same.1) (operation next is allowed),
          )
          | inr found ↦ (found.0, goes_on_looser floor (level next + 1) (omega (arith, allowed)) found.1)
        ]
      ]

  pub first_stops :
      (last : ℕ) → floor ≤ 8 → IsCutShort 8 tokens from last → IsCutShort floor tokens from last
  first_stops last le cut other end o =
      let s = spine from other floor end o in
      let found = cut s.first s.middle s.stands in
      elim (begins s.grown) [
        | inl same ↦ (
          omega (arith, found.0, same.1),
          goes_on_looser floor 8 le (subst (λ (place : ℕ). GoesOn 8 tokens place) (sym same.1) found.1),
        )
        | inr is ↦ absurd (not_looser 8 is.0 (omega (arith, (binary_level is.0).1)) is.1 found.1)
      ]

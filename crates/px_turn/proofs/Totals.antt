-- Sums over lists, of which one element changes.
use Rattle.std.proofs.Common.{rules, ◌≡◌, ◌≢◌, ℕ, zero, suc, ◌+◌, ◌≤◌, Bool, true, false, nat_eq, List, [], ◌∷◌, ◌++◌, length, set, refl, sym, ap, arith, le_refl}
use mathlib.Core.Option.{some, some-injective, some-ne-none}
use lib.ListN.{get_elem?}
use Rattle.px_turn.specs.Rule.{one_if, times, total}

pub one_if-le : (b : Bool) → one_if b ≤ 1
one_if-le true = le_refl 1
one_if-le false = omega arith

module _ {A : Type 0} (f : A → ℕ) where
  -- one element gives way to another
  pub total_set : (xs : List A) (i : ℕ) (v w : A) → get_elem? xs i ≡ some v
      → total f (set xs i w) + f v ≡ total f xs + f w
  total_set [] i v w at = absurd (some-ne-none v (sym at))
  total_set (x ∷ xs) zero v w at = let same : f x ≡ f v = ap f (some-injective x v at) in omega arith
  total_set (x ∷ xs) (suc i) v w at = let rest = total_set xs i v w at in omega arith

  pub total_same : (xs : List A) (i : ℕ) (v w : A) → get_elem? xs i ≡ some v → f w ≡ f v
      → total f (set xs i w) ≡ total f xs
  total_same xs i v w at same = let changed = total_set xs i v w at in omega arith

  pub total-append : (xs ys : List A) → total f (xs ++ ys) ≡ total f xs + total f ys
  total-append [] ys = omega arith
  total-append (x ∷ xs) ys = let rest = total-append xs ys in omega arith

  pub total_more : (xs : List A) (x : A) → total f (xs ++ x ∷ []) ≡ total f xs + f x
  total_more xs x = let both = total-append xs (x ∷ []) in omega arith

  pub one_of : (xs : List A) (i : ℕ) (v : A) → get_elem? xs i ≡ some v → f v ≤ total f xs
  one_of [] i v at = absurd (some-ne-none v (sym at))
  one_of (x ∷ xs) zero v at = let same : f x ≡ f v = ap f (some-injective x v at) in omega arith
  one_of (x ∷ xs) (suc i) v at = let rest = one_of xs i v at in omega arith

  -- two elements at different places
  pub two_of : (xs : List A) (i j : ℕ) (v w : A) → get_elem? xs i ≡ some v → get_elem? xs j ≡ some w → i ≢ j
      → f v + f w ≤ total f xs
  two_of [] i j v w at there apart = absurd (some-ne-none v (sym at))
  two_of (x ∷ xs) zero zero v w at there apart = absurd (apart refl)
  two_of (x ∷ xs) zero (suc j) v w at there apart =
      search (rules, some-injective, one_of)
  two_of (x ∷ xs) (suc i) zero v w at there apart =
      search (rules, some-injective, one_of)
  two_of (x ∷ xs) (suc i) (suc j) v w at there apart =
      let rest = two_of xs i j v w at there (λ e. apart (ap suc e)) in
      omega arith

  pub total-le-length : ((x : A) → f x ≤ 1) → (xs : List A) → total f xs ≤ length xs
  total-le-length small [] = omega arith
  total-le-length small (x ∷ xs) = let rest = total-le-length small xs in let here = small x in omega arith

  -- the others' part of a smaller sum is no greater
  pub others_le : (g : A → ℕ) → ((x : A) → f x ≤ g x) → (xs : List A) (i : ℕ) (v : A) → get_elem? xs i ≡ some v
      → total f xs + g v ≤ total g xs + f v
  others_le g less [] i v at = absurd (some-ne-none v (sym at))
  others_le g less (x ∷ xs) zero v at =
      let same : x ≡ v = some-injective x v at in
      let f_is : f x ≡ f v = ap f same in
      let g_is : g x ≡ g v = ap g same in
      let rest = all_le g less xs in
      omega arith
    where
      all_le : (g : A → ℕ) → ((x : A) → f x ≤ g x) → (xs : List A) → total f xs ≤ total g xs
      all_le g less [] = omega arith
      all_le g less (x ∷ xs) = let here = less x in let rest = all_le g less xs in omega arith
  others_le g less (x ∷ xs) (suc i) v at = let here = less x in let rest = others_le g less xs i v at in omega arith

-- how often a number is in a list
pub times-append : (number : ℕ) (xs ys : List ℕ) → times number (xs ++ ys) ≡ times number xs + times number ys
times-append number = total-append (λ other. one_if (nat_eq other number))

pub times-le-length : (number : ℕ) (xs : List ℕ) → times number xs ≤ length xs
times-le-length number = total-le-length (λ other. one_if (nat_eq other number)) (λ other. one_if-le (nat_eq other number))

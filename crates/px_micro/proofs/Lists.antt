-- Numbers that rise, and what is kept of lists.
use Rattle.std.proofs.Common.{◌≡◌, ℕ, suc, ◌+◌, ◌<◌, ◌≤◌, Bool, true, List, [], ◌∷◌, ◌++◌, length, map, get_or, filter, is_ok, refl, ap, sym, ◌∙◌, subst, arith, inl, inr, if◌then◌else◌, Result, Ok, Err, All, AllPairs, Contains, nat_eq}
use Rattle.std.specs.Cmp.{nat_eq_equiv}
use Rattle.std.specs.List.{list_any, range_with_len}
use Rattle.std.specs.List.Sorted.{IsBinarySearchResult}
use Rattle.std.specs.Ordering.{nat_cmp}
use Rattle.std.proofs.lemmas.Bool.{eqb-true, false_from_ne_true, cases_lt}
use Rattle.std.proofs.lemmas.List.{get_or_default, get_or-map, length-map}
use Rattle.std.proofs.lemmas.List.Elements.{All-map, filter-append}
use Rattle.std.proofs.lemmas.List.Folds.{list_any_at, list_any_none}
use Rattle.std.proofs.lemmas.List.FromFn.{get_or-range_with_len, length-range_with_len}
use Rattle.std.proofs.lemmas.List.Kept.{AllPairs-cons}
use Rattle.std.proofs.lemmas.List.Sorted.{searched}
use Rattle.std.proofs.lemmas.Map.Views.{list_any-from_Contains}
use Rattle.std.proofs.Math.Nat.{eq-or-lt_of_le}
use Rattle.px_value.proofs.General.{range_more}

-- a search among numbers that rise finds what is there
pub found_rising : (xs : List ℕ) (x : ℕ) (r : Result ℕ ℕ) → IsBinarySearchResult (λ y. nat_cmp y x) xs r
    → AllPairs (λ a b. a < b) xs → is_ok r ≡ list_any (nat_eq x) xs
found_rising xs x r found rise = by r found
  where
    up : (i j : ℕ) → i ≤ j → j < length xs → get_or xs i 0 ≤ get_or xs j 0
    up i j le within = elim (eq-or-lt_of_le le) [
      | inl same ↦ omega (arith, ap (λ k. get_or xs k 0) same)
      | inr less ↦ omega (arith, rise i j 0 less within)
    ]

    by : (r : Result ℕ ℕ) → IsBinarySearchResult (λ y. nat_cmp y x) xs r → is_ok r ≡ list_any (nat_eq x) xs
    by (Ok i) found =
        let there = searched xs x (Ok i) found up in
        sym (list_any_at (nat_eq x) xs i 0 there.0 (ap (nat_eq x) there.1 ∙ nat_eq_equiv.refl x))
    by (Err i) found =
        let apart = searched xs x (Err i) found up in
        sym (list_any_none (nat_eq x) xs (λ k d within. false_from_ne_true (nat_eq x (get_or xs k d)) (λ same.
        let is : x ≡ get_or xs k 0 = eqb-true x (get_or xs k d) same ∙ get_or_default xs k d 0 within in
        elim (cases_lt k i) [
          | inl before ↦ omega (arith, is, apart.1 k before)
          | inr behind ↦ omega (arith, is, apart.2 k behind within)
        ])))

-- the numbers below another
pub range_below : (n : ℕ) → All (λ node. node < n) (range_with_len 0 n)
range_below n k d inside =
    let small : k < n = omega (arith, inside, length-range_with_len 0 n) in
    omega (arith, get_or-range_with_len 0 n k d small, small)

pub range_has : (n node : ℕ) → node < n → Contains (range_with_len 0 n) node
range_has n node within = (
  node,
  omega (arith, within, length-range_with_len 0 n),
  omega (arith, get_or-range_with_len 0 n node node within),
)

pub in_range : (n node : ℕ) → node < n → list_any (nat_eq node) (range_with_len 0 n) ≡ true
in_range n node within = list_any-from_Contains nat_eq_equiv node (range_with_len 0 n) (range_has n node within)

-- one more number
pub range_filter_more : (p : ℕ → Bool) (n : ℕ) (here : Bool) → p n ≡ here
    → filter p (range_with_len 0 (n + 1)) ≡ filter p (range_with_len 0 n) ++ (if here then n ∷ [] else [])
range_filter_more p n here is =
    let last : 0 + n ≡ n = omega arith in
    ap (filter p) (range_more 0 n ∙ ap (λ (last : ℕ). range_with_len 0 n ++ last ∷ []) last) ∙ filter-append p (range_with_len 0 n) (n ∷ [])
    ∙ ap (λ b. filter p (range_with_len 0 n) ++ (if b then n ∷ [] else [])) is

-- what holds of each pair of images holds of each pair
pub pairs_unmap : {X Y : Type 0} (R : Y → Y → Type 0) (f : X → Y) (xs : List X) → AllPairs R (map f xs)
    → AllPairs (λ a b. R (f a) (f b)) xs
pairs_unmap R f xs all i j d before inside =
    subst (λ a. R a (f (get_or xs j d))) (get_or-map f xs i d (f d) (omega (arith, before, inside)))
    (subst (R (get_or (map f xs) i (f d))) (get_or-map f xs j d (f d) inside)
    (all i j (f d) before (omega (arith, inside, length-map xs f))))

-- and the other way round
pub pairs_map : {X Y : Type 0} (R : Y → Y → Type 0) (f : X → Y) (xs : List X) → AllPairs (λ a b. R (f a) (f b)) xs
    → AllPairs R (map f xs)
pairs_map R f [] all = λ i j d before inside. absurd (omega (arith, inside))
pairs_map R f (x ∷ xs) all =
    AllPairs-cons R (f x) (map f xs)
    (All-map (R (f x)) f xs (λ k d inside. all 0 (suc k) d (omega arith) (omega (arith, inside))))
    (pairs_map R f xs (λ i j d before inside. all (suc i) (suc j) d (omega (arith, before)) (omega (arith, inside))))

-- Sums over the front of a list.
use Rattle.std.proofs.Common.{◌≡◌, ℕ, ◌+◌, ◌<◌, ◌≤◌, List, ◌∷◌, length, get_or, map, take, sum, ap, arith}
use Rattle.std.proofs.lemmas.Grind.{common_steps}
use Rattle.std.proofs.lemmas.List.{take-map}
use Rattle.std.proofs.lemmas.List.Sums.{sum_by-cons, sum_by-take-le}

-- the first and the others
pub sum_rest : {X : Type 0} (f : X → ℕ) (x : X) (xs : List X) → sum (map f (x ∷ xs)) ≡ f x + sum (map f xs)
sum_rest f x xs = sum_by-cons (λ number. number) (f x) (map f xs)

-- one more
pub sum_more : {X : Type 0} (f : X → ℕ) (xs : List X) (i : ℕ) (d : X) → i < length xs
    → sum (map f (take (i + 1) xs)) ≡ sum (map f (take i xs)) + f (get_or xs i d)
sum_more f xs i d within = grind (arith, common_steps)

-- the front is no more than all
pub sum_front : {X : Type 0} (f : X → ℕ) (xs : List X) (i : ℕ) → sum (map f (take i xs)) ≤ sum (map f xs)
sum_front f xs i = omega (arith, ap sum (take-map f i xs), sum_by-take-le (λ n. n) (map f xs) i)

-- Numbers below a bound, none of them twice, sum up to no more than all below it.
use Rattle.std.proofs.Common.{◌≡◌, ◌≢◌, ℕ, zero, suc, ◌+◌, ◌<◌, ◌≤◌, Bool, true, false, nat_eq, List, [], ◌∷◌, sum_by, get_or, inl, inr, ap, ◌∙◌, arith, All, if◌then◌else◌}
use Rattle.std.specs.List.{AllPairs, range_with_len}
use Rattle.std.proofs.lemmas.Bool.Decides.{eqb_tells}
use Rattle.std.proofs.lemmas.List.Elements.{All-head, All-tail}
use Rattle.std.proofs.lemmas.List.FromFn.{sum_by-map-range_with_len_more}
use Rattle.std.proofs.lemmas.List.Sums.{sum_by-cons, sum_by-le-sum_by, sum-map}
use Rattle.px_cached.specs.Costs.{up_to}

pub up_to-more : (f : ℕ → ℕ) (count : ℕ) → up_to f (count + 1) ≡ up_to f count + f count
up_to-more f count = sum_by-map-range_with_len_more (λ x. x) f 0 count count (omega arith)

up_to-suc : (f : ℕ → ℕ) (count : ℕ) → up_to f (suc count) ≡ up_to f count + f count
up_to-suc f count = let next : suc count ≡ count + 1 = omega arith in ap (up_to f) next ∙ up_to-more f count

up_to-le : (f g : ℕ → ℕ) (count : ℕ) → ((x : ℕ) → f x ≤ g x) → up_to f count ≤ up_to g count
up_to-le f g count less = omega (
  arith,
  sum-map f (range_with_len 0 count),
  sum-map g (range_with_len 0 count),
  sum_by-le-sum_by f g (range_with_len 0 count) less,
)

-- without what this number has
abbrev without : (ℕ → ℕ) → ℕ → ℕ → ℕ
without f number other = if nat_eq number other then 0 else f other

without-le : (f : ℕ → ℕ) (number other : ℕ) → without f number other ≤ f other
without-le f number other = by (nat_eq number other)
  where
    by : (same : Bool) → (if same then 0 else f other) ≤ f other
    by true = omega arith
    by false = omega arith

taken : (f : ℕ → ℕ) (number count : ℕ) → number < count → f number + up_to (without f number) count ≤ up_to f count
taken f number zero below = absurd (omega (arith, below))
taken f number (suc count) below =
    let all = up_to-suc f count in
    let others = up_to-suc (without f number) count in
    elim (eqb_tells number count) [
      | inl same ↦ omega (
        arith,
        all,
        others,
        ap (λ b. if b then 0 else f count) same.0,
        ap f same.1,
        up_to-le (without f number) f count (without-le f number),
      )
      | inr apart ↦ omega (
        arith,
        all,
        others,
        without-le f number count,
        taken f number count (omega (arith, below, apart.1)),
      )
    ]

pub sum_by-distinct : (f most : ℕ → ℕ) (count : ℕ) (numbers : List ℕ) → AllPairs (λ number other. number ≢ other) numbers
    → All (λ number. (number < count) × (f number ≤ most number)) numbers → sum_by f numbers ≤ up_to most count
sum_by-distinct f most count [] once all = omega arith
sum_by-distinct f most count (number ∷ numbers) once all =
    let here = All-head (λ number. (number < count) × (f number ≤ most number)) number numbers all in
    let rest = All-tail (λ number. (number < count) × (f number ≤ most number)) number numbers all in
    omega (
      arith,
      sum_by-cons f number numbers,
      here.0,
      here.1,
      taken most number count here.0,
      sum_by-distinct f (without most number) count numbers
          (λ i j d before inside. once (suc i) (suc j) d (omega (arith, before)) (omega (arith, inside)))
          (λ k d inside. elim (eqb_tells number (get_or numbers k d)) [
            | inl same ↦ absurd (once 0 (suc k) d (omega arith) (omega (arith, inside)) same.1)
            | inr apart ↦ (
              (rest k d inside).0,
              omega (arith, (rest k d inside).1, ap (λ b. if b then 0 else most (get_or numbers k d)) apart.0),
            )
          ]),
    )

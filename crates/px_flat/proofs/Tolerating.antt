-- Where a tolerance stands among rising ones.
use Rattle.std.proofs.Common.{◌≡◌, ℕ, zero, suc, ◌<◌, ◌≤◌, List, [], ◌∷◌, length, take, get_or, insert, All, refl, ap, sym, ◌∙◌, arith}
use Rattle.std.proofs.lemmas.List.Elements.{All-head, All-tail}
use Rattle.px_sem.specs.Tolerances.{with_tolerance}

module _ (tolerance : ℕ) where
  abbrev pub IsLess : ℕ → Type 0
  IsLess other = other < tolerance

  -- one that is less is passed by
  behind : (first : ℕ) (rest : List ℕ) → first < tolerance
      → with_tolerance (first ∷ rest) tolerance ≡ first ∷ with_tolerance rest tolerance
  behind first rest less = grind arith

  -- one that isn't less than the first stands before it
  before : (first : ℕ) (rest : List ℕ) → tolerance < first
      → with_tolerance (first ∷ rest) tolerance ≡ tolerance ∷ first ∷ rest
  before first rest less = grind arith

  there : (first : ℕ) (rest : List ℕ) → first ≡ tolerance → with_tolerance (first ∷ rest) tolerance ≡ first ∷ rest
  there first rest same = grind arith

  -- it stands behind those that are less
  pub inserted : (tolerances : List ℕ) (at : ℕ) → All IsLess (take at tolerances) → at ≤ length tolerances
      → ((d : ℕ) → at < length tolerances → tolerance < get_or tolerances at d)
      → insert tolerances at tolerance ≡ with_tolerance tolerances tolerance
  inserted [] zero less within above = refl
  inserted [] (suc at) less within above = absurd (omega (arith, within))
  inserted (first ∷ rest) zero less within above = sym (before first rest (above 0 (omega arith)))
  inserted (first ∷ rest) (suc at) less within above =
      ap (λ rest. first ∷ rest)
      (inserted rest at (All-tail IsLess first (take at rest) less) (omega (arith, within))
      (λ d inside. above d (omega (arith, inside))))
      ∙ sym (behind first rest (All-head IsLess first (take at rest) less))

  -- it is one of them already
  pub present : (tolerances : List ℕ) (at : ℕ) → All IsLess (take at tolerances) → at < length tolerances
      → ((d : ℕ) → get_or tolerances at d ≡ tolerance) → tolerances ≡ with_tolerance tolerances tolerance
  present [] at less within same = absurd (omega (arith, within))
  present (first ∷ rest) zero less within same = sym (there first rest (same 0))
  present (first ∷ rest) (suc at) less within same =
      ap (λ rest. first ∷ rest)
      (present rest at (All-tail IsLess first (take at rest) less) (omega (arith, within)) same)
      ∙ sym (behind first rest (All-head IsLess first (take at rest) less))

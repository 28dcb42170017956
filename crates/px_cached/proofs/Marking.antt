-- What is to be looked at, while touched sources are gone through.
use Rattle.std.proofs.Common.{◌≡◌, ℕ, ◌+◌, ◌≤◌, true, false, List, get_or, ◌⊎◌, inl, inr, ap, sym, ◌∙◌, All, None, Some, arith}
use Rattle.std.proofs.lemmas.Bool.{eqb-true}
use Rattle.std.proofs.lemmas.List.Elements.{All-contains}
use Rattle.std.proofs.lemmas.Map.Views.{Contains-from_any}
use Rattle.px_links.specs.Links.{LinksData, HoldsOthersAsBefore, first_of, is_absent, popped, SameCounts}
use Rattle.px_listen.specs.Listening.{ListenData, dependents_of, is_dependent}
use Rattle.px_cached.specs.Costs.{in_all, source_cost}
use Rattle.px_cached.proofs.OneList.{noted_then}
use Rattle.px_cached.proofs.Owing.{in_all-popped}

pub record IsSoFar (Stays : ℕ → Type 0) (listeners : ListenData) (first_touched touched first_stale stale : LinksData) : Type 0 where
  pub marked : (source part : ℕ) → is_absent first_touched source ≡ false → is_dependent listeners source part ≡ true
      → (is_absent touched source ≡ false) ⊎ ((is_absent stale part ≡ false) ⊎ Stays part)
  pub still : (part : ℕ) → is_absent first_stale part ≡ false → is_absent stale part ≡ false
  pub owed : (cost : ℕ → ℕ) → in_all cost stale + in_all (source_cost listeners cost) touched
      ≤ in_all cost first_stale + in_all (source_cost listeners cost) first_touched
  pub touched_counts : SameCounts first_touched touched
  pub stale_counts : SameCounts first_stale stale

module _ (Stays : ℕ → Type 0) (listeners : ListenData) (first_touched first_stale : LinksData) where
  module _ (touched stale : LinksData) (so_far : IsSoFar Stays listeners first_touched touched first_stale stale) where
    pub goes_on : (source : ℕ) (then_touched then_stale : LinksData) → HoldsOthersAsBefore touched then_touched source None
        → first_of touched 0 ≡ Some source → then_touched ≡ popped touched 0 → SameCounts touched then_touched
        → All (λ part. (is_absent then_stale part ≡ false) ⊎ Stays part) (dependents_of listeners source)
        → ((part : ℕ) → is_absent stale part ≡ false → is_absent then_stale part ≡ false)
        → ((cost : ℕ → ℕ) → in_all cost then_stale ≤ in_all cost stale + source_cost listeners cost source)
        → SameCounts stale then_stale
        → IsSoFar Stays listeners first_touched then_touched first_stale then_stale
    goes_on source then_touched then_stale holders first popped_is counts noted still owed stale_counts = record {
      marked = λ other part was depends. elim (so_far.marked other part was depends) [
        | inr marked ↦ inr (elim marked [
          | inl noted_before ↦ inl (still part noted_before)
          | inr stays ↦ inr stays
        ])
        | inl left ↦ elim (noted_then touched then_touched source holders other left) [
          | inr stays ↦ inl stays
          | inl same ↦ inr (All-contains (λ part. (is_absent then_stale part ≡ false) ⊎ Stays part) (dependents_of listeners source) part noted
              (Contains-from_any eqb-true part (dependents_of listeners source) (ap (λ source. is_dependent listeners source part) (sym same) ∙ depends)))
        ]
      ];
      still = λ part was. still part (so_far.still part was);
      owed = λ cost. omega (
        arith,
        owed cost,
        so_far.owed cost,
        in_all-popped (source_cost listeners cost) touched source first,
        ap (in_all (source_cost listeners cost)) popped_is,
      );
      touched_counts = (counts.0 ∙ so_far.touched_counts.0, counts.1 ∙ so_far.touched_counts.1);
      stale_counts = (stale_counts.0 ∙ so_far.stale_counts.0, stale_counts.1 ∙ so_far.stale_counts.1);
    }

-- what is to be looked at or stays, where more is to be looked at
pub noted_later : (Stays : ℕ → Type 0) (old new : LinksData) → ((part : ℕ) → is_absent old part ≡ false → is_absent new part ≡ false)
    → (parts : List ℕ) → All (λ part. (is_absent old part ≡ false) ⊎ Stays part) parts
    → All (λ part. (is_absent new part ≡ false) ⊎ Stays part) parts
noted_later Stays old new still parts noted k d inside = elim (noted k d inside) [
  | inl was ↦ inl (still (get_or parts k d) was)
  | inr stays ↦ inr stays
]

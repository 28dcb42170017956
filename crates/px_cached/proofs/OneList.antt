-- Numbers that are noted in linked cells of one list.
use Rattle.std.proofs.Common.{◌≡◌, ℕ, Bool, true, false, nat_eq, Some, None, ◌⊎◌, inl, inr, refl, ap, sym, ◌∙◌, subst, if◌then◌else◌}
use Rattle.std.specs.Prelude.{is_none}
use Rattle.std.proofs.lemmas.Bool.{eq-eqb, false_from_ne_true, false≢true}
use Rattle.std.proofs.lemmas.Bool.Decides.{eqb_tells}
use Rattle.px_value.proofs.General.{is_none-None, is_some_at, none_or_some}
use Rattle.px_links.specs.Links.{LinksData, HoldsOthersAsBefore, holder_of, is_absent}
use Rattle.px_cached.specs.Adding.{AddsTo}

-- ---- some are put into one list

-- who waits is not absent
pub not_both : (queue : LinksData) (node list : ℕ) → holder_of queue node ≡ Some list → is_absent queue node ≡ true → ⊥
not_both queue node list held absent =
    none_or_some (holder_of queue node) (is_none-None (holder_of queue node) absent) (is_some_at (holder_of queue node) list held)

-- who waits nowhere did before
pub was_absent : (old new : LinksData) (list node : ℕ) → AddsTo list old new → is_absent new node ≡ true → is_absent old node ≡ true
was_absent old new list node added absent = elim (added node) [
  | inl same ↦ ap is_none (sym same) ∙ absent
  | inr pushed ↦ pushed.0
]

-- who waited waits
pub still_waits : (list : ℕ) (old new : LinksData) (node : ℕ) → AddsTo list old new → is_absent old node ≡ false
    → is_absent new node ≡ false
still_waits list old new node added waits =
    false_from_ne_true (is_absent new node) (λ absent. false≢true (sym waits ∙ was_absent old new list node added absent))

-- pushes into one list, one after another
pub adds_both : (list : ℕ) (first middle last : LinksData) → AddsTo list first middle → AddsTo list middle last → AddsTo list first last
adds_both list first middle last one two node = elim (two node) [
  | inl same ↦ elim (one node) [
    | inl before ↦ inl (same ∙ before)
    | inr added ↦ inr (added.0, same ∙ added.1)
  ]
  | inr now ↦ elim (one node) [
    | inl before ↦ inr (ap is_none (sym before) ∙ now.0, now.1)
    | inr added ↦ absurd (not_both middle node list added.1 now.0)
  ]
]

-- ---- one is noted

module _ (old new : LinksData) (cell list : ℕ)
    (holders : HoldsOthersAsBefore old new cell (if is_absent old cell then Some list else holder_of old cell)) where
  here : holder_of new cell ≡ (if is_absent old cell then Some list else holder_of old cell)
  here = holders cell
      ∙ ap (λ b. if b then (if is_absent old cell then Some list else holder_of old cell) else holder_of old cell)
      (eq-eqb cell cell refl)

  pub elsewhere : (other : ℕ) → nat_eq cell other ≡ false → holder_of new other ≡ holder_of old other
  elsewhere other apart = holders other
      ∙ ap (λ b. if b then (if is_absent old cell then Some list else holder_of old cell) else holder_of old other) apart

  -- it is in the list, or where it was
  pub pushed_here : is_absent old cell ≡ true → holder_of new cell ≡ Some list
  pushed_here absent = here ∙ ap (λ b. if b then Some list else holder_of old cell) absent

  pub kept_here : is_absent old cell ≡ false → holder_of new cell ≡ holder_of old cell
  kept_here waits = here ∙ ap (λ b. if b then Some list else holder_of old cell) waits

  pub now_noted : is_absent new cell ≡ false
  now_noted = ap is_none here ∙ by (is_absent old cell) refl
    where
      by : (b : Bool) → is_absent old cell ≡ b → is_none (if b then Some list else holder_of old cell) ≡ false
      by true is = refl
      by false is = is

  pub holders_then : AddsTo list old new
  holders_then other = elim (eqb_tells cell other) [
    | inl same ↦ subst (λ other. (holder_of new other ≡ holder_of old other)
        ⊎ ((is_absent old other ≡ true) × (holder_of new other ≡ Some list))) same.1 (by (is_absent old cell) refl)
    | inr apart ↦ inl (elsewhere other apart.0)
  ]
    where
      by : (b : Bool) → is_absent old cell ≡ b → (holder_of new cell ≡ holder_of old cell)
          ⊎ ((is_absent old cell ≡ true) × (holder_of new cell ≡ Some list))
      by true is = inr (is, pushed_here is)
      by false is = inl (kept_here is)

  pub still_noted : (other : ℕ) → is_absent old other ≡ false → is_absent new other ≡ false
  still_noted other = still_waits list old new other holders_then

-- ---- one is no longer noted

module _ (old new : LinksData) (cell : ℕ) (holders : HoldsOthersAsBefore old new cell None) where
  others_stay : (other : ℕ) → nat_eq cell other ≡ false → is_absent new other ≡ is_absent old other
  others_stay other apart = ap is_none (holders other ∙ ap (λ b. if b then None else holder_of old other) apart)

  pub noted_then : (other : ℕ) → is_absent old other ≡ false → (other ≡ cell) ⊎ (is_absent new other ≡ false)
  noted_then other noted = elim (eqb_tells cell other) [
    | inl same ↦ inl (sym same.1)
    | inr apart ↦ inr (others_stay other apart.0 ∙ noted)
  ]

-- Which numbers are noted, by a flag beside each.
use Rattle.std.proofs.Common.{◌≡◌, ◌≢◌, ℕ, ◌<◌, ◌≤◌, Bool, true, false, ◌||◌, nat_eq, List, [], ◌∷◌, ◌++◌, length, set, get_or, drop, refl, ap, sym, ◌∙◌, arith, inl, inr, length-append, Option, Contains, All, AllPairs, if◌then◌else◌}
use Rattle.std.specs.Cmp.{nat_eq_equiv}
use Rattle.std.specs.List.{list_any}
use Rattle.std.proofs.lemmas.Bool.{eqb-true, eq-eqb, false_from_ne_true}
use Rattle.std.proofs.lemmas.Bool.Decides.{Decides-eqb, eqb_tells}
use Rattle.std.proofs.lemmas.List.{get_or-set_same, get_or-set_other, length-set}
use Rattle.std.proofs.lemmas.List.Folds.{list_any_at}
use Rattle.std.proofs.lemmas.Map.Made.{IsDistinct-from_AllPairs}
use Rattle.std.proofs.lemmas.Map.Steps.{length-le_from_distinct_below}
use Rattle.std.proofs.lemmas.Map.Views.{Contains-from_any}
use Rattle.std.proofs.lemmas.Option.{gets}
use Rattle.px_value.proofs.General.{list_any-push, once_push, passes_within}
use Rattle.px_cells.specs.Marks.{at_mark, AreFlagged, AreNoted, IsAsSeen}
use Rattle.px_cells.specs.News.{with_number, with_numbers}
use Rattle.px_cells.proofs.Marking.{at_mark-slice}

module _ (flags : List Bool) (numbers : List ℕ) (flagged : AreFlagged flags numbers) where
  -- a noted number is below the count
  pub flagged_below : (at : ℕ) → list_any (nat_eq at) numbers ≡ true → at < length flags
  flagged_below at noted = passes_within (λ flag. flag) flags at false refl (flagged at ∙ noted)

  pub all_below : All (λ at. at < length flags) numbers
  all_below k d within = flagged_below (get_or numbers k d)
      (list_any_at (nat_eq (get_or numbers k d)) numbers k d within (eq-eqb (get_or numbers k d) _ refl))

  -- one more is noted
  pub flagged-push : (at : ℕ) → at < length flags → AreFlagged (set flags at true) (numbers ++ at ∷ [])
  flagged-push at below other = elim (eqb_tells other at) [
    | inl same ↦ ap (λ other. get_or (set flags at true) other false) same.1 ∙ get_or-set_same flags at true false below
        ∙ sym (list_any-push (nat_eq other) numbers at ∙ ap (λ b. b || list_any (nat_eq other) numbers) same.0)
    | inr apart ↦ get_or-set_other flags at other true false apart.1 ∙ flagged other
        ∙ sym (list_any-push (nat_eq other) numbers at ∙ ap (λ b. b || list_any (nat_eq other) numbers) apart.0)
  ]

-- numbers that are noted once are no more than there are flags
pub few_flagged : (flags : List Bool) (numbers : List ℕ) → AreFlagged flags numbers → AllPairs (λ a b. a ≢ b) numbers
    → length numbers ≤ length flags
few_flagged flags numbers flagged once = length-le_from_distinct_below numbers (length flags)
    (IsDistinct-from_AllPairs Decides-eqb numbers once) (flagged_below flags numbers flagged)

-- so there is room for one that isn't yet
pub room-push : (flags : List Bool) (numbers : List ℕ) → AreFlagged flags numbers → AllPairs (λ a b. a ≢ b) numbers
    → (at : ℕ) → at < length flags → list_any (nat_eq at) numbers ≡ false → length numbers < length flags
room-push flags numbers flagged once at below new =
    let more = few_flagged (set flags at true) (numbers ++ at ∷ []) (flagged-push flags numbers flagged at below)
    (once_push nat_eq nat_eq_equiv.refl numbers at new once) in
    omega (arith, more, length-set flags at true, length-append numbers (at ∷ []))

-- ---- flags that are taken back, one after another

-- the flags that still stand are those of what is left
abbrev pub AreLeftFlagged : List Bool → List ℕ → ℕ → Type 0
AreLeftFlagged flags numbers i = (at : ℕ) → get_or flags at false ≡ true → list_any (nat_eq at) (drop i numbers) ≡ true

-- ---- what isn't news

-- whether a number is among those with one more, or with more
pub has-with : (numbers : List ℕ) (at other : ℕ)
    → list_any (nat_eq other) (with_number numbers at) ≡ false
    → (list_any (nat_eq other) numbers ≡ false) × (other ≢ at)
has-with numbers at other = by (list_any (nat_eq at) numbers) refl
  where
    by : (there : Bool) → list_any (nat_eq at) numbers ≡ there
        → list_any (nat_eq other) (if there then numbers else numbers ++ at ∷ []) ≡ false
        → (list_any (nat_eq other) numbers ≡ false) × (other ≢ at)
    by true there none = (none, λ same. absurd (cc (sym none ∙ ap (λ n. list_any (nat_eq n) numbers) same ∙ there)))
    by false there none = elim (eqb_tells other at) [
      | inl same ↦ absurd (cc (sym none ∙ list_any-push (nat_eq other) numbers at
          ∙ ap (λ b. b || list_any (nat_eq other) numbers) same.0))
      | inr apart ↦ (
        sym (list_any-push (nat_eq other) numbers at
            ∙ ap (λ b. b || list_any (nat_eq other) numbers) apart.0) ∙ none,
        apart.1,
      )
    ]

pub has-all : (numbers more : List ℕ) (other : ℕ) → list_any (nat_eq other) (with_numbers numbers more) ≡ false
    → (list_any (nat_eq other) numbers ≡ false) × (list_any (nat_eq other) more ≡ false)
has-all numbers [] other none = (none, refl)
has-all numbers (at ∷ more) other none =
    let rest = has-all (with_number numbers at) more other none in
    let first = has-with numbers at other rest.0 in (
      first.0,
      elim (eqb_tells other at) [
        | inl same ↦ absurd (first.1 same.1)
        | inr apart ↦ ap (λ b. b || list_any (nat_eq other) more) apart.0 ∙ rest.1
      ],
    )

-- what isn't among the numbers isn't noted
pub not_noted : (numbers : List ℕ) (at : ℕ) → (Contains numbers at → ⊥) → list_any (nat_eq at) numbers ≡ false
not_noted numbers at other =
    false_from_ne_true (list_any (nat_eq at) numbers) (λ is. other (Contains-from_any eqb-true at numbers is))

module _ {T : Type 0} where
  -- a value that is written is news
  pub seen-write : (values seen : List T) (news : List ℕ) (at : ℕ) (value : T) → IsAsSeen values seen news
      → IsAsSeen (set values at value) seen (with_number news at)
  seen-write values seen news at value same other none =
      let apart = has-with news at other none in
      grind (arith, gets, get_or-set_other, length-set, same other apart.0, apart.1)

  -- and so is each that goes back
  pub seen-back : (olds : List (Option T)) (values seen : List T) (changed news : List ℕ) → length olds ≡ length values
      → AreNoted olds changed → IsAsSeen values seen news → IsAsSeen (at_mark olds values) seen (with_numbers news changed)
  seen-back olds values seen changed news sized noted same other none =
      let apart = has-all news changed other none in
      sym (at_mark-slice olds values other sized (noted other ∙ apart.1)) ∙ same other apart.0

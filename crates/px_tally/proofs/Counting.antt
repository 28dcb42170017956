-- How many of the members count, as one of them is marked.
use Rattle.std.proofs.Common.{◌≡◌, ℕ, zero, suc, ◌+◌, ◌<◌, ◌≤◌, ◌^◌, Bool, true, false, not, ◌&&◌, count_by, List, [], ◌∷◌, length, set, get_or, replicate, Option, Some, None, IfSome, All, refl, ap, sym, ◌∙◌, arith, inl, inr, subst}
use Rattle.std.specs.List.{zip}
use Rattle.std.proofs.lemmas.Bool.{eq-eqb}
use Rattle.std.proofs.lemmas.Bool.Decides.{eqb_tells}
use Rattle.std.proofs.lemmas.List.{get_or-set_same, get_or-set_other, get_or-replicate, length-set, length-replicate}
use Rattle.std.proofs.lemmas.List.Sums.{count_by-le-length, sum_by-cons, sum_by-set}
use Rattle.std.proofs.lemmas.Slice.Zip.{get_or-zip, length-zip}
use Rattle.px_value.proofs.General.{one_if, replicate-same}
use Rattle.px_tally.specs.Keeping.{AreTotals}
use Rattle.px_tally.specs.Tally.{is_group, total_in}

-- whether a member is of the group and counts
abbrev counts_for : ℕ → Option ℕ × Bool → Bool
counts_for group member = member.1 && is_group group member.0

zip-set : (groups : List (Option ℕ)) (counting : List Bool) (at : ℕ) (counts : Bool)
    → zip groups (set counting at counts) ≡ set (zip groups counting) at (get_or groups at None, counts)
zip-set [] counting at counts = refl
zip-set (group ∷ groups) [] at counts = refl
zip-set (group ∷ groups) (first ∷ counting) zero counts = refl
zip-set (group ∷ groups) (first ∷ counting) (suc at) counts =
    ap (λ rest. (group, first) ∷ rest) (zip-set groups counting at counts)

-- the total of another group stays, and that of its own has one more or one less
total-other : (group old new : ℕ) (counts : Bool) (of : Option ℕ) → is_group group of ≡ false
    → new + one_if (not counts && is_group group of) ≡ old + one_if (counts && is_group group of) → old ≡ new
total-other group old new true of other is = let same = rw other at is in omega (arith, same)
total-other group old new false of other is = let same = rw other at is in omega (arith, same)

total-own : (group old new : ℕ) (counts : Bool) (of : Option ℕ) → is_group group of ≡ true
    → new + one_if (not counts && is_group group of) ≡ old + one_if (counts && is_group group of)
    → new + one_if (not counts) ≡ old + one_if counts
total-own group old new true of own is = rw own at is
total-own group old new false of own is = rw own at is

module _ (group : ℕ) where
  total-cons : (first : Option ℕ) (groups : List (Option ℕ)) (counts : Bool) (counting : List Bool)
      → total_in (first ∷ groups) (counts ∷ counting) group
      ≡ one_if (counts && is_group group first) + total_in groups counting group
  total-cons first groups counts counting =
      sum_by-cons (λ member. one_if (counts_for group member)) (first, counts) (zip groups counting)

  -- where none counts, no member does
  pub none-count : (groups : List (Option ℕ)) (counting : List Bool) → total_in groups counting group ≡ 0
      → (member : ℕ) → get_or groups member None ≡ Some group → get_or counting member false ≡ false
  none-count [] counting none member of = absurd (cc)
  none-count (first ∷ groups) [] none member of = refl
  none-count (first ∷ groups) (false ∷ counting) none zero of = refl
  none-count (first ∷ groups) (true ∷ counting) none zero of =
      let here : one_if (is_group group first) ≡ 1 = ap (λ of. one_if (is_group group of)) of ∙ ap one_if (eq-eqb group group refl) in
      absurd (omega (arith, none, total-cons first groups true counting, here))
  none-count (first ∷ groups) (counts ∷ counting) none (suc member) of =
      none-count groups counting (omega (arith, none, total-cons first groups counts counting)) member of

  -- and the other way round
  pub count-none : (groups : List (Option ℕ)) (counting : List Bool)
      → ((member : ℕ) → get_or groups member None ≡ Some group → get_or counting member false ≡ false)
      → total_in groups counting group ≡ 0
  count-none [] counting none = refl
  count-none (first ∷ groups) [] none = refl
  count-none (first ∷ groups) (counts ∷ counting) none =
      let rest = count-none groups counting (λ member. none (suc member)) in
      total-cons first groups counts counting
      ∙ omega (arith, rest, nobody_first counts first (none 0))
    where
      nobody_first : (counts : Bool) (first : Option ℕ) → (first ≡ Some group → counts ≡ false)
          → one_if (counts && is_group group first) ≡ 0
      nobody_first false first none = refl
      nobody_first true None none = refl
      nobody_first true (Some other) none = elim (eqb_tells other group) [
        | inl same ↦ absurd (cc (none (ap Some same.1)))
        | inr apart ↦ ap one_if apart.0
      ]

-- nobody counts yet
pub total-nobody : (groups : List (Option ℕ)) (group : ℕ) → total_in groups (replicate (length groups) false) group ≡ 0
total-nobody groups group =
    count-none group groups (replicate (length groups) false) (λ member of. replicate-same (length groups) member false)

pub totals-nobody : (many : ℕ) (groups : List (Option ℕ)) → length groups < 2 ^ 32
    → All (λ group. IfSome group (λ group. group < many)) groups
    → AreTotals (replicate many 0) groups (replicate (length groups) false)
totals-nobody many groups few within = record {
  sized = length-replicate (length groups) false;
  few = few;
  within = rw (length-replicate {A = ℕ} many 0) within;
  right = λ group below. get_or-replicate many group 0 0 (omega (arith, below, length-replicate {A = ℕ} many 0))
      ∙ sym (total-nobody groups group);
}

module _ (groups : List (Option ℕ)) (counting : List Bool) (sized : length counting ≡ length groups) where
  pairs : length (zip groups counting) ≡ length groups
  pairs = omega (arith, length-zip groups counting)

  -- no more count than there are
  pub total-few : (group : ℕ) → total_in groups counting group ≤ length groups
  total-few group = omega (arith, pairs, count_by-le-length (counts_for group) (zip groups counting))

  module _ (at : ℕ) (within : at < length groups) where
    -- a member's pair
    pair : (d : Option ℕ × Bool) → get_or (zip groups counting) at d ≡ (get_or groups at d.0, get_or counting at d.1)
    pair d = get_or-zip groups counting at d within (omega (arith, within, sized))

    -- one member is marked
    total-set : (group : ℕ) (counts : Bool)
        → total_in groups (set counting at counts) group + one_if (get_or counting at false && is_group group (get_or groups at None))
        ≡ total_in groups counting group + one_if (counts && is_group group (get_or groups at None))
    total-set group counts =
        let pairs_set : zip groups (set counting at counts) ≡ set (zip groups counting) at (get_or groups at None, counts) =
        zip-set groups counting at counts in
        ap (λ pairs. count_by (counts_for group) pairs + one_if (get_or counting at false && is_group group (get_or groups at None)))
        pairs_set
        ∙ ap (λ pair. count_by (counts_for group) (set (zip groups counting) at (get_or groups at None, counts))
        + one_if (counts_for group pair)) (sym (pair (None, false)))
        ∙ sum_by-set (λ member. one_if (counts_for group member)) (zip groups counting) at (get_or groups at None, counts)
        (None, false) (omega (arith, within, pairs))

    total-turned : (counts : Bool) → get_or counting at false ≡ not counts → (group : ℕ)
        → total_in groups (set counting at counts) group + one_if (not counts && is_group group (get_or groups at None))
        ≡ total_in groups counting group + one_if (counts && is_group group (get_or groups at None))
    total-turned counts turns group = ap (λ was. total_in groups (set counting at counts) group
        + one_if (was && is_group group (get_or groups at None))) (sym turns) ∙ total-set group counts

-- the totals stay right as a member turns
module _ (totals : List ℕ) (groups : List (Option ℕ)) (counting : List Bool) (kept : AreTotals totals groups counting)
    (at : ℕ) (within : at < length groups) (counts : Bool) (turns : get_or counting at false ≡ not counts) where
  abbrev of : Option ℕ
  of = get_or groups at None

  turned : (group : ℕ) → total_in groups (set counting at counts) group + one_if (not counts && is_group group of)
      ≡ total_in groups counting group + one_if (counts && is_group group of)
  turned = total-turned groups counting kept.sized at within counts turns

  stays : (group : ℕ) → is_group group of ≡ false → group < length totals
      → get_or totals group 0 ≡ total_in groups (set counting at counts) group
  stays group other below = kept.right group below ∙ total-other group _ _ counts of other (turned group)

  -- one of no group
  pub totals-stay : of ≡ None → AreTotals totals groups (set counting at counts)
  totals-stay is = record {
    sized = length-set counting at counts ∙ kept.sized;
    few = kept.few;
    within = kept.within;
    right = λ group. stays group (ap (is_group group) is);
  }

  -- one of this group
  pub own_there : (own : ℕ) → of ≡ Some own → own < length totals
  own_there own is = subst (λ group. IfSome group (λ group. group < length totals)) is (kept.within at None within)

  pub own_total : (own : ℕ) → of ≡ Some own
      → (total_in groups (set counting at counts) own + one_if (not counts) ≡ get_or totals own 0 + one_if counts)
      × (total_in groups (set counting at counts) own < 2 ^ 32)
  own_total own is =
      let now = total-own own _ _ counts of (ap (is_group own) is ∙ eq-eqb own own refl) (turned own) in
      let sized : length (set counting at counts) ≡ length groups = length-set counting at counts ∙ kept.sized in (
        omega (arith, now, kept.right own (own_there own is)),
        omega (arith, kept.few, total-few groups (set counting at counts) sized own),
      )

  pub totals-turn : (own total : ℕ) → of ≡ Some own → total + one_if (not counts) ≡ get_or totals own 0 + one_if counts
      → AreTotals (set totals own total) groups (set counting at counts)
  totals-turn own total is changes = record {
    sized = length-set counting at counts ∙ kept.sized;
    few = kept.few;
    within = rw (length-set totals own total) kept.within;
    right = λ group below. elim (eqb_tells own group) [
      | inl same ↦ subst (λ group. get_or (set totals own total) group 0 ≡ total_in groups (set counting at counts) group)
          same.1 (get_or-set_same totals own total 0 (own_there own is) ∙ omega (arith, (own_total own is).0, changes))
      | inr apart ↦ get_or-set_other totals own group total 0 (λ same. apart.1 (sym same))
          ∙ stays group (ap (is_group group) is ∙ apart.0) (omega (arith, below, length-set totals own total))
    ];
  }

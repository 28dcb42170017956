-- What the places of a tree tell of parents.
use Rattle.std.proofs.Common.{◌≡◌, ◌≢◌, ℕ, ◌<◌, ◌≤◌, true, false, nat_eq, nat_lt, ◌⊎◌, inl, inr, List, length, Some, refl, sym, ap, ◌∙◌, arith}
use Rattle.std.proofs.lemmas.Bool.{and_parts, and_from, and_cases, or_cases, or_left, or_parts, ltb-true, ltb-false, lt-ltb, le-ltb, eqb-true, eqb-false, eq-eqb, and_right}
use Rattle.px_told.specs.declared.place.Place.{Place}
use Rattle.px_told.specs.Preorder.{parent_of, end_of, is_below, is_under, IsPreorder}

module _ (tree : List Place) (pre : IsPreorder tree) where
  -- a node stands behind its parent
  pub parent_before : (node parent : ℕ) → node < length tree → parent_of tree node ≡ Some parent → parent < node
  parent_before node parent here is = ltb-true parent node (and_parts (nat_lt parent node) (nat_lt node (end_of tree parent))
      (pre.below parent node here ∙ ap (is_under tree parent) is
      ∙ or_left (nat_eq parent parent) (is_below tree parent parent) (eq-eqb parent parent refl))).0

module _ (tree : List Place) (pre : IsPreorder tree) (above node parent : ℕ) (here : node < length tree)
    (is : parent_of tree node ≡ Some parent) where
  -- the parent of a node below another is that one, or behind it
  pub parent_behind : above < node → node < end_of tree above → above ≤ parent
  parent_behind behind before =
      let under : is_under tree above (Some parent) ≡ true =
      ap (is_under tree above) (sym is) ∙ sym (pre.below above node here)
      ∙ and_from (nat_lt above node) (nat_lt node (end_of tree above)) (lt-ltb above node behind)
      (lt-ltb node (end_of tree above) before) in
      elim (or_cases (nat_eq above parent) (is_below tree above parent) under) [
        | inl same ↦ omega (arith, eqb-true above parent same)
        | inr below ↦ omega (arith, ltb-true above parent (and_parts (nat_lt above parent) (nat_lt parent (end_of tree above)) below).0)
      ]

  -- the parent of a node that stands behind all that are below another isn't that one, nor below it
  pub parent_apart : end_of tree above ≤ node → (parent ≢ above) × ((parent < above) ⊎ (end_of tree above ≤ parent))
  parent_apart past =
      let apart : is_under tree above (Some parent) ≡ false =
      ap (is_under tree above) (sym is) ∙ sym (pre.below above node here)
      ∙ and_right (nat_lt above node) (nat_lt node (end_of tree above)) (le-ltb node (end_of tree above) past) in
      let parts = or_parts (nat_eq above parent) (is_below tree above parent) apart in
      let differ = eqb-false above parent parts.0 in (
        λ same. differ (sym same),
        elim (and_cases (nat_lt above parent) (nat_lt parent (end_of tree above)) parts.1) [
          | inl before ↦ inl (omega (arith, differ, ltb-false above parent before))
          | inr behind ↦ inr (ltb-false parent (end_of tree above) behind)
        ],
      )

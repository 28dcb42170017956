-- Where each node of a plan stands, as a tree in preorder.
use Rattle.std.proofs.Common.{◌≡◌, ℕ, ◌<◌, ◌≤◌, true, false, ◌&&◌, ◌||◌, nat_eq, nat_lt, List, [], ◌∷◌, length, get_or, None, All, IfSome, refl, ap, sym, ◌∙◌, subst, arith, inl, inr}
use Rattle.std.specs.List.{list_any}
use Rattle.std.proofs.iter.runs.Lists.{at_some}
use Rattle.std.proofs.lemmas.Bool.{cases_lt, eq-eqb, eqb-true, le-ltb, ne_eqb}
use Rattle.std.proofs.lemmas.List.FromFn.{get_or-map-range_with_len, length-map-range_with_len}
use Rattle.px_value.proofs.General.{same_bool}
use Rattle.px_core.specs.Plan.{Site, is_same}
use Rattle.px_core.proofs.Paths.{same-self}
use Rattle.px_flat.specs.declared.flat.Flat.{Flat}
use Rattle.px_flat.specs.Flat.{plan_of}
use Rattle.px_flat.specs.Row.{site_in, parent_number, after_last}
use Rattle.px_flat.specs.Row.{is_below as below_path}
use Rattle.px_flat.proofs.Tables.{flat_sound}
use Rattle.px_told.specs.declared.place.Place.{Place}
use Rattle.px_told.specs.Preorder.{IsPreorder, end_of, is_below, is_under, parent_of, place_at}
use Rattle.px_assign.specs.Conflicts.{variable_of}
use Rattle.px_assign.specs.Claims.{AreOf, ClaimsData}
use Rattle.px_micro.proofs.Ancestors.{placed}
use Rattle.px_micro.proofs.Chains.{chain_within}
use Rattle.px_micro.proofs.Families.{end_within, same_node}
use Rattle.px_machine.specs.Kept.{place_in, places_of, parents_of}

pub long : (plan : List Site) → length (places_of plan) ≡ length plan
long plan = length-map-range_with_len (place_in plan) 0 (length plan)

pub parents_long : (plan : List Site) → length (parents_of plan) ≡ length plan
parents_long plan = length-map-range_with_len (parent_number plan) 0 (length plan)

pub variables_long : (plan : List Site) (claims : ClaimsData) → AreOf plan claims → length claims.variables ≡ length plan
variables_long plan claims are = ap length are.variables ∙ length-map-range_with_len (variable_of plan) 0 (length plan)

-- what stands at a number
at : (plan : List Site) (node : ℕ) → node < length plan → place_at (places_of plan) node ≡ place_in plan node
at plan node here = get_or-map-range_with_len (place_in plan) 0 (length plan) node node _ here (omega arith)

pub parent_at : (plan : List Site) (node : ℕ) → node < length plan → parent_of (places_of plan) node ≡ parent_number plan node
parent_at plan node here = ap (λ (place : Place). place.parent) (at plan node here)

pub end_at : (plan : List Site) (node : ℕ) → node < length plan → end_of (places_of plan) node ≡ after_last plan node
end_at plan node here = ap (λ (place : Place). place.end) (at plan node here)

pub parents_at : (plan : List Site) (node : ℕ) → node < length plan
    → get_or (parents_of plan) node None ≡ parent_number plan node
parents_at plan node here = get_or-map-range_with_len (parent_number plan) 0 (length plan) node node None here (omega arith)

-- Below a node by number are those below it by path.
module _ (flat : Flat) where
  abbrev plan : List Site
  plan = plan_of flat

  abbrev tree : List Place
  tree = places_of plan

  by_path : (above node : ℕ) → above < length plan → node < length plan
      → is_below tree above node ≡ below_path (site_in plan above).path (site_in plan node)
  by_path above node here there =
      ap (λ end. nat_lt above node && nat_lt node end) (end_at plan above here) ∙ sym ((flat_sound flat).below above here node there)

  one_path : (above node : ℕ) → above < length plan → node < length plan
      → is_same (site_in plan above).path (site_in plan node).path ≡ nat_eq above node
  one_path above node here there =
      same_bool (is_same (site_in plan above).path (site_in plan node).path) (nat_eq above node)
      (λ same. eq-eqb above node (same_node plan above node (flat_sound flat) here there same))
      (λ same. subst (λ n. is_same (site_in plan above).path (site_in plan n).path ≡ true) (eqb-true above node same)
      (same-self (site_in plan above).path))

  -- what is above a node is its parent, or above its parent
  below_node : (above node : ℕ) → above < length plan → node < length plan
      → is_below tree above node ≡ is_under tree above (parent_number plan node)
  below_node above node here there =
      by_path above node here there ∙ elim (placed flat node there) [
        | inl top ↦
            ap (list_any (is_same (site_in plan above).path)) top.above ∙ ap (is_under tree above) (sym top.number)
        | inr under ↦
            let near : under.parent < length plan = omega (arith, under.before, there) in
            ap (list_any (is_same (site_in plan above).path)) under.above
            ∙ (λ i. one_path above under.parent here near i || sym (by_path above under.parent here near) i)
            ∙ ap (is_under tree above) (sym under.number)
      ]

  -- nothing is below a number that is no node's
  not_below : (above node : ℕ) → node ≤ above → is_below tree above node ≡ false
  not_below above node before = ap (λ less. less && nat_lt node (end_of tree above)) (le-ltb above node before)

  none_under : (above node : ℕ) → length plan ≤ above → node < length plan → is_under tree above (parent_number plan node) ≡ false
  none_under above node past there = elim (placed flat node there) [
    | inl top ↦ ap (is_under tree above) top.number
    | inr under ↦
        ap (is_under tree above) under.number
        ∙ (λ i. ne_eqb above under.parent (λ same. absurd (omega (arith, same, past, under.before, there))) i
        || not_below above under.parent (omega (arith, past, under.before, there)) i)
  ]

  pub in_preorder : IsPreorder tree
  in_preorder = record {
    ends = λ node inside.
        let here : node < length plan = omega (arith, inside, long plan) in (
          omega (arith, end_at plan node here),
          omega (arith, end_at plan node here, end_within plan node here, long plan),
        );
    below = λ above node inside.
        let there : node < length plan = omega (arith, inside, long plan) in
        elim (cases_lt above (length plan)) [
          | inl here ↦ below_node above node here there ∙ ap (is_under tree above) (sym (parent_at plan node there))
          | inr past ↦
              not_below above node (omega (arith, past, there)) ∙ sym (none_under above node past there)
              ∙ ap (is_under tree above) (sym (parent_at plan node there))
        ];
  }

-- a parent is a node
pub all_parents : (flat : Flat) → All (λ parent. IfSome parent (λ parent. parent < length (plan_of flat))) (parents_of (plan_of flat))
all_parents flat k d inside =
    subst (λ parent. IfSome parent (λ parent. parent < length (plan_of flat)))
    (sym (get_or-map-range_with_len (parent_number (plan_of flat)) 0 (length (plan_of flat)) k k d here (omega arith)))
    (at_some (parent_number (plan_of flat) k) (λ parent. parent < length (plan_of flat)) (λ parent is.
    chain_within flat k (parent ∷ []) parent here (is, refl)))
  where
    here : k < length (plan_of flat)
    here = omega (arith, inside, parents_long (plan_of flat))

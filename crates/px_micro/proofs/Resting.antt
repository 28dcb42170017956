-- Whether each child is at rest, by a walk over them.
use Rattle.std.proofs.Common.{◌≡◌, ℕ, ◌<◌, ◌≤◌, Bool, true, false, not, ◌||◌, List, length, refl, ap, sym, ◌∙◌, subst, arith, inl, inr}
use Rattle.std.proofs.lemmas.List.Sums.{list_all-from_AllPass}
use Rattle.std.proofs.lemmas.List.{get_or_default}
use Rattle.std.proofs.lemmas.List.Folds.{list_all_at}
use Rattle.px_core.specs.Plan.{Site, no_site, is_child_of}
use Rattle.px_sem.specs.Guards.{each_child, is_at_rest}
use Rattle.px_sem.specs.World.{World, NodeRecord, state_at}
use Rattle.px_flat.specs.Row.{site_in, after_last}
use Rattle.px_flat.proofs.Tables.{flat_sound}
use Rattle.px_parts.specs.declared.parts.Parts.{Parts}
use Rattle.px_parts.specs.Parts.{plan_in, world_in, record_of}
use Rattle.px_micro.proofs.Families.{IsBelow, behind, among, child_below, next_child}
use Rattle.px_micro.proofs.Passing.{HavePassed, passed_child, passed_more}
use Rattle.px_parts.proofs.Found.{record_is}

-- So far: these children were passed, and are at rest.
pub record IsSeen (parts : Parts) (node next : ℕ) : Type 0 where
  pub passed : HavePassed (plan_in parts) node next
  pub rest : (k : ℕ) → node < k → k < next → k < length (plan_in parts)
      → is_child_of (site_in (plan_in parts) node).path (site_in (plan_in parts) k) ≡ true
      → is_at_rest (record_of parts k).state ≡ true

pub seen_more : (parts : Parts) (node next end : ℕ) → node < length (plan_in parts) → next < length (plan_in parts)
    → end ≡ after_last (plan_in parts) next → IsSeen parts node next → is_at_rest (record_of parts next).state ≡ true
    → IsSeen parts node end
seen_more parts node next end here there is seen quiet = record {
  passed = passed_more parts.flat node next end there is seen.passed;
  rest = λ k after before inside child. elim (passed_child parts.flat node next end there is seen.passed k here before inside child) [
    | inl earlier ↦ seen.rest k after earlier inside child
    | inr same ↦ subst (λ n. is_at_rest (record_of parts n).state ≡ true) (sym same) quiet
  ];
}

-- the state of a node in the world
pub state_is : (parts : Parts) (node : ℕ) → node < length (plan_in parts)
    → state_at (world_in parts) (site_in (plan_in parts) node).path ≡ (record_of parts node).state
state_is parts node here = ap (λ (r : NodeRecord). r.state) (record_is parts node here)

-- ---- each child

module _ (plan : List Site) (now : World) (own : List ℕ) where
  abbrev test : Site → Bool
  test site = not (is_child_of own site) || is_at_rest (state_at now site.path)

  pub each_rests : ((k : ℕ) → k < length plan → is_child_of own (site_in plan k) ≡ true
      → is_at_rest (state_at now (site_in plan k).path) ≡ true) → each_child is_at_rest plan now own ≡ true
  each_rests rests = list_all-from_AllPass test plan (λ k d inside.
      subst (λ site. test site ≡ true) (get_or_default plan k no_site d inside)
      (at k inside (is_child_of own (site_in plan k)) refl))
    where
      at : (k : ℕ) → k < length plan → (b : Bool) → is_child_of own (site_in plan k) ≡ b → test (site_in plan k) ≡ true
      at k inside false is = rw is refl
      at k inside true is = rw is (rests k inside is)

  pub one_works : (k : ℕ) → k < length plan → is_child_of own (site_in plan k) ≡ true
      → is_at_rest (state_at now (site_in plan k).path) ≡ false → each_child is_at_rest plan now own ≡ false
  one_works k inside child works =
      let fails : test (site_in plan k) ≡ false = rw child works in
      list_all_at test plan k no_site inside fails

-- all children are seen and at rest
pub all_rest : (parts : Parts) (node next : ℕ) → node < length (plan_in parts) → after_last (plan_in parts) node ≤ next
    → IsSeen parts node next
    → true ≡ each_child is_at_rest (plan_in parts) (world_in parts) (site_in (plan_in parts) node).path
all_rest parts node next here end seen =
    let plan : List Site = plan_in parts in
    sym (each_rests plan (world_in parts) (site_in plan node).path (λ k inside is.
    let below = child_below parts.flat node k here inside is in
    let place = behind plan node k (flat_sound parts.flat) here inside below in
    ap is_at_rest (state_is parts k inside) ∙ seen.rest k place.0 (omega (arith, place.1, end)) inside is))

-- one child is not at rest
pub one_moves : (parts : Parts) (node next : ℕ) → node < length (plan_in parts) → next < length (plan_in parts)
    → next < after_last (plan_in parts) node → IsSeen parts node next → is_at_rest (record_of parts next).state ≡ false
    → false ≡ each_child is_at_rest (plan_in parts) (world_in parts) (site_in (plan_in parts) node).path
one_moves parts node next here there before seen moves =
    let plan : List Site = plan_in parts in
    let below : IsBelow plan node next = among plan node next (flat_sound parts.flat) here there seen.passed.first before in
    sym (one_works plan (world_in parts) (site_in plan node).path next there
    (next_child parts.flat node next here there below seen.passed.done) (ap is_at_rest (state_is parts next there) ∙ moves))

-- All that the expressions of a fit plan speak of and look up is the plan's.
use Rattle.std.proofs.Common.{◌≡◌, ℕ, ◌<◌, ◌≤◌, Bool, true, false, ◌&&◌, List, [], ◌∷◌, ◌++◌, length, get_or, fold, refl, ap, sym, ◌∙◌, subst, arith, if◌then◌else◌}
use Rattle.std.specs.List.{list_all, list_any, flat_map, All}
use Rattle.std.proofs.Math.Logic.{∥∥₁_elim}
use Rattle.std.proofs.Props.{props}
use Rattle.std.proofs.lemmas.Bool.{and_parts, and_from, or_left, or_right}
use Rattle.std.proofs.lemmas.Grind.{common_steps}
use Rattle.std.proofs.lemmas.List.{length-map}
use Rattle.std.proofs.lemmas.List.Folds.{fold_along, list_all-append, list_any-append}
use Rattle.std.proofs.lemmas.List.Recursion.{and_at}
use Rattle.std.proofs.lemmas.List.Sums.{AllPass-from_list_all}
use Rattle.px_value.proofs.General.{list_all_parts}
use Rattle.px_core.specs.Fit.{Reference, references, references_of_site, references_of_target, terms_of, terms_of_conditions, targets_of, path_is_there, variable_is_there, paths_are_there, variables_are_there, has_right_variables, AreDistinct, is_there}
use Rattle.px_core.specs.Plan.{Site, Head, no_site, is_same}
use Rattle.px_core.proofs.Paths.{same-self}
use Rattle.px_flat.specs.declared.names.Names.{Names}
use Rattle.px_flat.specs.Extents.{AreBelow}
use Rattle.px_flat.specs.FitPlan.{IsFitPlan}
use Rattle.px_flat.specs.Layout.{variable_cells}
use Rattle.px_flat.specs.Lookups.{AreKnown, lookups_in, lookups_in_body, lookups_in_head, lookups_of, with_name}
use Rattle.px_flat.specs.Names.{plan_in}
use Rattle.px_flat.specs.Row.{site_in, after_last}
use Rattle.px_flat.proofs.Numbers.{distinct_sites}
use Rattle.px_flat.proofs.Subtrees.{are_below}
use Rattle.px_flat.proofs.Trees.{length-sites_under}

pub front : (plan : List Site) (mentions more : List Reference) (names others : List (List ℕ))
    → AreKnown plan (mentions ++ more) (names ++ others) → AreKnown plan mentions names
front plan mentions more names others known = record {
  mentioned = (list_all_parts (is_there plan) mentions more known.mentioned).0;
  looked_up = (list_all_parts (λ name. list_any (is_same name) (lookups_of plan)) names others known.looked_up).0;
}

pub back : (plan : List Site) (mentions more : List Reference) (names others : List (List ℕ))
    → AreKnown plan (mentions ++ more) (names ++ others) → AreKnown plan more others
back plan mentions more names others known = record {
  mentioned = (list_all_parts (is_there plan) mentions more known.mentioned).1;
  looked_up = (list_all_parts (λ name. list_any (is_same name) (lookups_of plan)) names others known.looked_up).1;
}

-- what all that a list gives passes, all that one of its items gives does
pub part_passes : {X Y : Type 0} (p : Y → Bool) (f : X → List Y) (xs : List X) (i : ℕ) (d : X)
    → list_all p (flat_map f xs) ≡ true → i < length xs → list_all p (f (get_or xs i d)) ≡ true
part_passes {X} p f xs i d all within =
    and_at (λ (xs : List X). list_all p (flat_map f xs)) (λ (x : X). list_all p (f x)) refl
    (λ x xs. list_all-append p (f x) (flat_map f xs)) xs i d within all

-- what holds of expressions or targets together holds of each of them
pub each_known : {X : Type 0} (plan : List Site) (mentions : X → List Reference) (names : X → List (List ℕ)) (xs : List X)
    → AreKnown plan (flat_map mentions xs) (flat_map names xs) → All (λ x. AreKnown plan (mentions x) (names x)) xs
each_known plan mentions names xs known k d within = record {
  mentioned = part_passes (is_there plan) mentions xs k d known.mentioned within;
  looked_up = part_passes (λ name. list_any (is_same name) (lookups_of plan)) names xs k d known.looked_up within;
}

-- ---- a fit plan

pub few_cells : (plan : List Site) → IsFitPlan plan → variable_cells plan ≤ 131072
few_cells plan fit = subst (λ plan. variable_cells plan ≤ 131072) (sym fit.nodes) fit.fit.cells

some_node : (plan : List Site) → IsFitPlan plan → 0 < length plan
some_node plan fit = grind (arith, common_steps, length-sites_under)

-- what the tables keep of a fit plan whose paths differ
pub record IsSound (plan : List Site) : Type 0 where
  pub distinct : AreDistinct plan
  pub some : 0 < length plan
  pub few : length plan ≤ 4096
  pub cells : variable_cells plan ≤ 131072
  pub arrays : list_all has_right_variables plan ≡ true
  pub spoken : list_all (paths_are_there plan) plan ≡ true
  pub declared : list_all (variables_are_there plan) plan ≡ true
  pub below : (node : ℕ) → node < length plan → AreBelow plan node (after_last plan node)

fit_sound : (plan : List Site) → AreDistinct plan → IsFitPlan plan → IsSound plan
fit_sound plan distinct fit = record {
  distinct = distinct;
  some = some_node plan fit;
  few = omega (arith, ap length fit.nodes, length-sites_under [] fit.tree, fit.fit.count);
  cells = few_cells plan fit;
  arrays = subst (λ plan. list_all has_right_variables plan ≡ true) (sym fit.nodes) fit.fit.arrays;
  spoken = subst (λ plan. list_all (paths_are_there plan) plan ≡ true) (sym fit.nodes) fit.fit.spoken;
  declared = subst (λ plan. list_all (variables_are_there plan) plan ≡ true) (sym fit.nodes) fit.fit.declared;
  below = are_below plan fit distinct;
}

pub sound : (plan : List Site) → AreDistinct plan → ∥ IsFitPlan plan ∥₁ → IsSound plan
sound plan distinct fit = ∥∥₁_elim fit (hlevel props) (fit_sound plan distinct)

-- the plan of names is sound
pub names_sound : (names : Names) → IsSound (plan_in names)
names_sound names = sound (plan_in names) (distinct_sites names.rows.items names.laid) names.fit

-- it has as many paths as nodes
pub length-paths : (names : Names) → length names.paths.keys ≡ length (plan_in names)
length-paths names = ap length names.found ∙ length-map (plan_in names) (λ site. site.path)

-- ---- what a node's expressions name

both_pass : {X : Type 0} (p q : X → Bool) (xs : List X) → list_all p xs ≡ true → list_all q xs ≡ true
    → list_all (λ x. p x && q x) xs ≡ true
both_pass p q [] hp hq = refl
both_pass p q (x ∷ xs) hp hq =
    let ps = and_parts (p x) (list_all p xs) hp in
    let qs = and_parts (q x) (list_all q xs) hq in
    and_from (p x && q x) (list_all (λ x. p x && q x) xs) (and_from (p x) (q x) ps.0 qs.0) (both_pass p q xs ps.1 qs.1)

-- a name that is there stays
kept : (name : List ℕ) (names more : List (List ℕ)) → list_any (is_same name) names ≡ true
    → list_any (is_same name) (fold with_name names more) ≡ true
kept name names more there =
    fold_along with_name (λ (same : Unit {0}) (other : List ℕ). same)
    (λ (names : List (List ℕ)) (same : Unit {0}). list_any (is_same name) names ≡ true)
    (λ names same other there. by names other there (list_any (is_same other) names)) names tt more there
  where
    by : (names : List (List ℕ)) (other : List ℕ) → list_any (is_same name) names ≡ true → (b : Bool)
        → list_any (is_same name) (if b then names else names ++ other ∷ []) ≡ true
    by names other there true = there
    by names other there false = list_any-append (is_same name) names (other ∷ [])
        ∙ or_left (list_any (is_same name) names) (list_any (is_same name) (other ∷ [])) there

-- all names are there that were added
all_added : (names more : List (List ℕ)) → list_all (λ name. list_any (is_same name) (fold with_name names more)) more ≡ true
all_added names [] = refl
all_added names (name ∷ more) =
    and_from (list_any (is_same name) (fold with_name (with_name names name) more))
    (list_all (λ name'. list_any (is_same name') (fold with_name (with_name names name) more)) more)
    (kept name (with_name names name) more (by (list_any (is_same name) names) refl))
    (all_added (with_name names name) more)
  where
    by : (b : Bool) → list_any (is_same name) names ≡ b → list_any (is_same name) (if b then names else names ++ name ∷ []) ≡ true
    by true is = is
    by false is = list_any-append (is_same name) names (name ∷ [])
        ∙ or_right (list_any (is_same name) names) (list_any (is_same name) (name ∷ []))
        (or_left (is_same name name) false (same-self name))

pub site_known : (plan : List Site) → IsSound plan → (node : ℕ) → node < length plan
    → AreKnown plan (references_of_site (site_in plan node)) (lookups_in_head (site_in plan node).head)
site_known plan sound node within = record {
  mentioned = both_pass (path_is_there plan) (variable_is_there plan) (references_of_site (site_in plan node))
      (AllPass-from_list_all (paths_are_there plan) plan sound.spoken node no_site within)
      (AllPass-from_list_all (variables_are_there plan) plan sound.declared node no_site within);
  looked_up = part_passes (λ name. list_any (is_same name) (lookups_of plan)) (λ site. lookups_in_head site.head) plan
      node no_site (all_added [] (flat_map (λ site. lookups_in_head site.head) plan)) within;
}

-- each of its conditions, and its body
pub conditions_known : (plan : List Site) → IsSound plan → (node : ℕ) → node < length plan
    → All (λ term. AreKnown plan (references term) (lookups_in term)) (terms_of_conditions (site_in plan node).head.conditions)
conditions_known plan sound node within =
    let head : Head = (site_in plan node).head in
    each_known plan references lookups_in (terms_of_conditions head.conditions)
    (front plan (flat_map references (terms_of_conditions head.conditions))
    (flat_map references (terms_of head.body) ++ flat_map references_of_target (targets_of head.body))
    (flat_map lookups_in (terms_of_conditions head.conditions)) (lookups_in_body head.body) (site_known plan sound node within))

pub body_known : (plan : List Site) → IsSound plan → (node : ℕ) → node < length plan
    → AreKnown plan (flat_map references (terms_of (site_in plan node).head.body)
    ++ flat_map references_of_target (targets_of (site_in plan node).head.body)) (lookups_in_body (site_in plan node).head.body)
body_known plan sound node within =
    let head : Head = (site_in plan node).head in
    back plan (flat_map references (terms_of_conditions head.conditions))
    (flat_map references (terms_of head.body) ++ flat_map references_of_target (targets_of head.body))
    (flat_map lookups_in (terms_of_conditions head.conditions)) (lookups_in_body head.body) (site_known plan sound node within)

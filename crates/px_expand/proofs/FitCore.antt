-- THE CORE PLAN OF A TREE WITHOUT FAULTS IS FIT, where it is not too large, and its values are of the types of their variables.
use Rattle.std.proofs.Common.{◌≡◌, true, false, not, List, [], refl, arith}
use Rattle.std.specs.Prelude.{nat_lt}
use Rattle.std.specs.List.{list_all}
use Rattle.std.proofs.lemmas.Bool.{and_parts, or_parts, ltb-false, not-false}
use Rattle.px_value.proofs.Ascii.{list_all-weaker}
use Rattle.px_syntax.specs.Plan.{PlanTree}
use Rattle.px_syntax.specs.PlanFaults.{faults}
use Rattle.px_core.specs.Fit.{IsFit, is_there, path_is_there, variable_is_there, paths_are_there, variables_are_there, owns_its_targets, references_of_site, has_short_path}
use Rattle.px_core.specs.Plan.{Site, sites, count_of}
use Rattle.px_expand.specs.Bound.{is_too_large}
use Rattle.px_expand.specs.Core.{core}
use Rattle.px_expand.specs.Labels.{has_identifiers}
use Rattle.px_expand.specs.Typed.{has_typed_values}
use Rattle.px_expand.proofs.AllFitting.{core_fits}
use Rattle.px_expand.proofs.CellSums.{core_cells}
use Rattle.px_expand.proofs.Counts.{core_count}
use Rattle.px_expand.proofs.Faultless.{has_none}
use Rattle.px_expand.proofs.Fitting.{fits}
use Rattle.px_expand.proofs.Sound.{core_sound}
use Rattle.px_expand.proofs.SoundSites.{sound_lists, sound_siblings, sound_variables, sound_bodies, sound_arrays, sound_values}

spoken : (whole : List Site) (site : Site) → fits whole site ≡ true → paths_are_there whole site ≡ true
spoken whole site all =
    list_all-weaker (is_there whole) (path_is_there whole)
    (λ reference is. (and_parts (path_is_there whole reference) (variable_is_there whole reference) is).0)
    (references_of_site site) (and_parts (list_all (is_there whole) (references_of_site site)) (owns_its_targets site) all).0

declared : (whole : List Site) (site : Site) → fits whole site ≡ true → variables_are_there whole site ≡ true
declared whole site all =
    list_all-weaker (is_there whole) (variable_is_there whole)
    (λ reference is. (and_parts (path_is_there whole reference) (variable_is_there whole reference) is).1)
    (references_of_site site) (and_parts (list_all (is_there whole) (references_of_site site)) (owns_its_targets site) all).0

pub core_fit : (tree : PlanTree) → faults tree ≡ [] → has_identifiers tree ≡ true → is_too_large (core tree) ≡ false
    → IsFit (core tree)
core_fit tree none labels within =
    let whole = sites (core tree) in
    let parts = or_parts (nat_lt 4096 (count_of (core tree))) (not (list_all has_short_path whole)) within in
    let few = ltb-false 4096 (count_of (core tree)) parts.0 in
    let counted = core_count tree in
    let sound = core_sound tree none labels (omega (arith, few, counted)) in
    let free = has_none tree none in
    let all = core_fits tree free.blocks labels in
    record {
      root = refl;
      count = few;
      paths = not-false (list_all has_short_path whole) parts.1;
      cells = core_cells tree free.cells (omega (arith, few, counted));
      lists = sound_lists (core tree) sound;
      siblings = sound_siblings (core tree) sound refl;
      variables = sound_variables (core tree) sound;
      bodies = sound_bodies (core tree) sound;
      arrays = sound_arrays (core tree) sound;
      spoken = list_all-weaker (fits whole) (paths_are_there whole) (spoken whole) whole all;
      declared = list_all-weaker (fits whole) (variables_are_there whole) (declared whole) whole all;
      targets =
          list_all-weaker (fits whole) owns_its_targets
          (λ site is. (and_parts (list_all (is_there whole) (references_of_site site)) (owns_its_targets site) is).1) whole all;
    }

pub core_typed : (tree : PlanTree) → faults tree ≡ [] → has_identifiers tree ≡ true → is_too_large (core tree) ≡ false
    → has_typed_values (core tree) ≡ true
core_typed tree none labels within =
    let few = ltb-false 4096 (count_of (core tree))
    (or_parts (nat_lt 4096 (count_of (core tree))) (not (list_all has_short_path (sites (core tree)))) within).0 in
    let counted = core_count tree in
    sound_values (core tree) (core_sound tree none labels (omega (arith, few, counted)))

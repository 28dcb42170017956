-- What nodes that are sound have, said of their sites.
use Rattle.std.proofs.Common.{◌≡◌, ℕ, Bool, true, not, List, [], ◌∷◌, refl, ◌∙◌}
use Rattle.std.specs.List.{list_any, list_all}
use Rattle.std.proofs.lemmas.Bool.{and_from, and_parts}
use Rattle.std.proofs.lemmas.List.Folds.{list_all-append}
use Rattle.px_core.specs.Fit.{only_lists_have_children, names_of, siblings_differ, all_differ, variables_differ, has_its_body, has_right_variables}
use Rattle.px_core.specs.Plan.{Head, Tree, NoNode, Branch, is_same, path_under, sites_under, sites}
use Rattle.px_expand.specs.Typed.{has_typed_values, is_typed}
use Rattle.px_expand.proofs.Sound.{EachNode, IsSound, AreSound}

-- a test that nodes pass of which this holds
pub each_passes : (P : Head → Tree → Type 0) (test : Head → Bool) → ((head : Head) (children : Tree) → P head children → test head ≡ true)
    → (above : List (List ℕ)) (tree : Tree) → EachNode P tree → list_all (λ site. test site.head) (sites_under above tree) ≡ true
each_passes P test passes above NoNode all = refl
each_passes P test passes above (Branch head children rest) all =
    let path = path_under above head.name in
    and_from _ _ (passes head children all.0)
    (list_all-append (λ site. test site.head) (sites_under (path ∷ above) children) (sites_under above rest)
    ∙ and_from _ _ (each_passes P test passes (path ∷ above) children all.1) (each_passes P test passes above rest all.2))

pub sound_lists : (tree : Tree) → AreSound tree → only_lists_have_children tree ≡ true
sound_lists NoNode sound = refl
sound_lists (Branch head children rest) sound =
    and_from _ _ (and_from _ _ sound.0.lists (sound_lists children sound.1)) (sound_lists rest sound.2)

pub sound_siblings : (tree : Tree) → AreSound tree → all_differ (names_of tree) ≡ true → siblings_differ tree ≡ true
sound_siblings NoNode sound differ = refl
sound_siblings (Branch head children rest) sound differ =
    let parts = and_parts (not (list_any (is_same head.name) (names_of rest))) (all_differ (names_of rest)) differ in
    and_from _ _ (and_from _ _ parts.0 (sound_siblings children sound.1 sound.0.siblings)) (sound_siblings rest sound.2 parts.1)

pub sound_variables : (tree : Tree) → AreSound tree → list_all variables_differ (sites tree) ≡ true
sound_variables tree = each_passes IsSound _ (λ head children sound. sound.declared.differ) [] tree

pub sound_bodies : (tree : Tree) → AreSound tree → list_all has_its_body (sites tree) ≡ true
sound_bodies tree = each_passes IsSound _ (λ head children sound. sound.body) [] tree

pub sound_arrays : (tree : Tree) → AreSound tree → list_all has_right_variables (sites tree) ≡ true
sound_arrays tree = each_passes IsSound _ (λ head children sound. sound.declared.cells) [] tree

pub sound_values : (tree : Tree) → AreSound tree → has_typed_values tree ≡ true
sound_values tree = each_passes IsSound (λ head. list_all is_typed head.variables) (λ head children sound. sound.declared.values) [] tree

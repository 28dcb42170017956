-- All paths of the core plan are short exactly where the longest path of its size is.
use Rattle.std.proofs.Common.{◌≡◌, ℕ, suc, ◌+◌, ◌≤◌, true, List, [], ◌∷◌, ◌++◌, length, refl, ap, ◌∙◌, arith}
use Rattle.std.specs.Prelude.{nat_le}
use Rattle.std.specs.List.{list_all}
use Rattle.std.proofs.Math.ListN.{length-append}
use Rattle.std.proofs.lemmas.Bool.{and_parts, and_from, leb-true, le-leb}
use Rattle.std.proofs.lemmas.Bool.Decides.{same_from_decides}
use Rattle.std.proofs.lemmas.List.Folds.{list_all-append}
use Rattle.px_syntax.specs.Plan.{PlanTree}
use Rattle.px_value.specs.Path.{below}
use Rattle.px_value.proofs.General.{list_all_parts}
use Rattle.px_core.specs.Fit.{has_short_path}
use Rattle.px_core.specs.Plan.{Head, Tree, NoNode, Branch, sites_under, sites}
use Rattle.px_expand.specs.Core.{core, root_place, block_core}
use Rattle.px_expand.specs.Size.{longest}
use Rattle.px_expand.proofs.Reaches.{reach_of, core_reach}

length-below : (parent name : List ℕ) → length (below parent name) ≡ suc (length parent + length name)
length-below parent name = omega (arith, length-append parent (46 ∷ name))

-- where no path is too long, and back
short_from : (parent : List ℕ) (above : List (List ℕ)) (tree : Tree)
    → length parent + reach_of tree ≤ 5000
    → list_all has_short_path (sites_under (parent ∷ above) tree) ≡ true
short_from parent above NoNode within = refl
short_from parent above (Branch head children rest) within =
    let path = below parent head.name in
    let long = length-below parent head.name in
    and_from _ _ (le-leb (length path) 5000 (omega (arith, long)))
    (list_all-append has_short_path (sites_under (path ∷ parent ∷ above) children) (sites_under (parent ∷ above) rest)
    ∙ and_from _ _ (short_from path (parent ∷ above) children (omega (arith, long)))
    (short_from parent above rest (omega arith)))

within_from : (parent : List ℕ) (above : List (List ℕ)) (tree : Tree) → length parent ≤ 5000
    → list_all has_short_path (sites_under (parent ∷ above) tree) ≡ true
    → length parent + reach_of tree ≤ 5000
within_from parent above NoNode start short = omega arith
within_from parent above (Branch head children rest) start short =
    let path = below parent head.name in
    let long = length-below parent head.name in
    let front = sites_under (path ∷ parent ∷ above) children in
    let back = sites_under (parent ∷ above) rest in
    let here = and_parts (nat_le (length path) 5000) (list_all has_short_path (front ++ back)) short in
    let fits : length path ≤ 5000 = leb-true (length path) 5000 here.0 in
    let both = list_all_parts has_short_path front back here.1 in
    let inside = within_from path (parent ∷ above) children fits both.0 in
    let behind = within_from parent above rest start both.1 in
    omega (arith, long, inside, behind)

-- the same of a root
root_short : (head : Head) (children : Tree)
    → list_all has_short_path (sites (Branch head children NoNode)) ≡ nat_le (length head.name + reach_of children) 5000
root_short head children =
    let front = sites_under (head.name ∷ []) children in
    same_from_decides {P = length head.name + reach_of children ≤ 5000}
    (list_all has_short_path (sites (Branch head children NoNode))) (nat_le (length head.name + reach_of children) 5000) (
      λ short.
          let here = and_parts (nat_le (length head.name) 5000) (list_all has_short_path (front ++ [])) short in
          within_from head.name [] children (leb-true (length head.name) 5000 here.0)
          (list_all_parts has_short_path front [] here.1).0,
      λ within.
          and_from _ _ (le-leb (length head.name) 5000 (omega arith))
          (list_all-append has_short_path front [] ∙ and_from _ _ (short_from head.name [] children within) refl),
    )
    (leb-true _ 5000, le-leb _ 5000)

pub short_where_longest : (plan : PlanTree) → list_all has_short_path (sites (core plan)) ≡ nat_le (longest plan) 5000
short_where_longest plan =
    let root = block_core [] (root_place plan.label) plan.root in
    let own = core_reach plan in
    root_short root.head root.children
    ∙ ap (λ n. nat_le n 5000) (omega (arith, own))

-- What `expand` and `check_size` promise, from the two tests that are made.
use Rattle.std.proofs.Common.{◌≡◌, ℕ, ◌≤◌, ◌^◌, ◌-◌, min, Bool, true, false, not, refl, sym, ap, ◌∙◌, subst, arith}
use Rattle.std.specs.Prelude.{◌||◌, nat_le, nat_lt}
use Rattle.std.specs.List.{list_all}
use Rattle.std.proofs.lemmas.Bool.{or_left, or_right, or_from, or_parts, not_from_true, not_from_false, not-false, leb-true, ltb-false, le-ltb}
use Rattle.px_syntax.specs.declared.fault.ExpandFault.TheVariants.{TooMany}
use Rattle.px_syntax.specs.Plan.{PlanTree}
use Rattle.px_core.specs.declared.plan.Plan.{Plan}
use Rattle.px_core.specs.Fit.{IsFit, has_short_path}
use Rattle.px_core.specs.Plan.{count_of, tree_of, sites}
use Rattle.px_expand.specs.Bound.{is_too_large}
use Rattle.px_expand.specs.Core.{core}
use Rattle.px_expand.specs.Size.{block_nodes, longest}
use Rattle.px_expand.specs.Typed.{has_typed_values}
use Rattle.px_expand.specs.Verdict.{IsChecked, IsExpanded, IsRefused}
use Rattle.px_expand.proofs.Counts.{core_count}
use Rattle.px_expand.proofs.FitCore.{core_fit, core_typed}
use Rattle.px_expand.proofs.ShortPaths.{short_where_longest}

-- a core plan is too large where its size says so
large_where : (tree : PlanTree)
    → is_too_large (core tree) ≡ (nat_lt 4096 (block_nodes tree.root) || not (nat_le (longest tree) 5000))
large_where tree =
    ap (λ nodes. nat_lt 4096 nodes || not (list_all has_short_path (sites (core tree)))) (core_count tree)
    ∙ ap (λ short. nat_lt 4096 (block_nodes tree.root) || not short) (short_where_longest tree)

-- the number of nodes that is told has 32 bits, and is over 4,096 only where theirs is
pub refused : (tree : PlanTree) (nodes : ℕ) → nodes ≡ min (block_nodes tree.root) (2 ^ 32 - 1)
    → (nodes ≤ 4096 → nat_le (longest tree) 5000 ≡ false)
    → IsRefused tree (TooMany nodes)
refused tree nodes is long = (
  large_where tree ∙ of_test (nat_lt 4096 (block_nodes tree.root)) refl,
  is ∙ ap (λ n. min n (2 ^ 32 - 1)) (sym (core_count tree)),
)
  where
    of_test : (test : Bool) → nat_lt 4096 (block_nodes tree.root) ≡ test
        → (nat_lt 4096 (block_nodes tree.root) || not (nat_le (longest tree) 5000)) ≡ true
    of_test true more = or_left _ _ more
    of_test false more =
        let few = ltb-false 4096 (block_nodes tree.root) more in
        or_right _ _ (not_from_false _ (long (omega (arith, is, few))))

pub within : (tree : PlanTree) (nodes : ℕ) → nodes ≡ min (block_nodes tree.root) (2 ^ 32 - 1) → nodes ≤ 4096
    → nat_le (longest tree) 5000 ≡ true → is_too_large (core tree) ≡ false
within tree nodes is few short =
    large_where tree
    ∙ or_from _ _ (le-ltb 4096 (block_nodes tree.root) (omega (arith, is, few))) (not_from_true _ short)

-- a number that is told, and is not over 4,096, is that of the nodes
pub counted : (tree : PlanTree) (nodes : ℕ) → nodes ≡ min (block_nodes tree.root) (2 ^ 32 - 1) → nodes ≤ 4096
    → nodes ≡ count_of (core tree)
counted tree nodes is few = omega (arith, is, few, core_count tree)

-- a core plan that is not too large has short paths
pub short : (tree : PlanTree) → is_too_large (core tree) ≡ false → longest tree ≤ 5000
short tree within =
    let tests = or_parts (nat_lt 4096 (block_nodes tree.root)) (not (nat_le (longest tree) 5000)) (sym (large_where tree) ∙ within) in
    leb-true (longest tree) 5000 (not-false _ tests.1)

pub expanded : (tree : PlanTree) (plan : Plan) → IsChecked tree → tree_of plan ≡ core tree
    → is_too_large (core tree) ≡ false → IsExpanded tree plan
expanded tree plan checked same within = record {
  same = same;
  within = within;
  fit = subst IsFit (sym same) (core_fit tree checked.faultless checked.labels within);
  typed = ap has_typed_values same ∙ core_typed tree checked.faultless checked.labels within;
}

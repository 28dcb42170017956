-- WHAT `expand` PROMISES, and `check_size`, which refuses as it does.
use Rattle.std.specs.Prelude.{◌≡◌, true, false, [], IsTrue}
use Rattle.px_syntax.specs.declared.fault.ExpandFault.{ExpandFault}
use Rattle.px_syntax.specs.declared.fault.ExpandFault.TheVariants.{TooMany, NoMemory}
use Rattle.px_syntax.specs.Plan.{PlanTree}
use Rattle.px_syntax.specs.PlanFaults.{faults}
use Rattle.px_core.specs.declared.plan.Plan.{Plan}
use Rattle.px_core.specs.Fit.{IsFit}
use Rattle.px_core.specs.Plan.{tree_of}
use Rattle.px_expand.specs.Bound.{is_too_large, told_nodes}
use Rattle.px_expand.specs.Core.{core}
use Rattle.px_expand.specs.Labels.{has_identifiers}
use Rattle.px_expand.specs.Typed.{has_typed_values}

-- a tree that can be expanded: it has no fault, and each label in it is an identifier
pub record IsChecked (tree : PlanTree) : Type 0 where
  pub faultless : faults tree ≡ []
  pub labels : IsTrue (has_identifiers tree)

-- the plan is the core plan of the tree, it can be run, and its variables begin with values of their types
pub record IsExpanded (tree : PlanTree) (plan : Plan) : Type 0 where
  pub same : tree_of plan ≡ core tree
  pub within : is_too_large (core tree) ≡ false
  pub fit : IsFit (tree_of plan)
  pub typed : IsTrue (has_typed_values (tree_of plan))

-- a tree is refused where its core plan is too large, with the number of its nodes; want of memory is free
abbrev pub IsRefused : PlanTree → ExpandFault → Type 0
IsRefused tree (TooMany nodes) = (is_too_large (core tree) ≡ true) × (nodes ≡ told_nodes (core tree))
IsRefused tree NoMemory = Unit {0}

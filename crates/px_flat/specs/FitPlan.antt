-- The nodes of a fit plan.
use Rattle.std.specs.Prelude.{◌≡◌, List}
use Rattle.px_core.specs.Fit.{IsFit}
use Rattle.px_core.specs.Plan.{Site, Tree, sites}

-- these are the nodes of a fit plan in preorder
pub record IsFitPlan (plan : List Site) : Type 0 where
  pub tree : Tree
  pub fit : IsFit tree
  pub nodes : plan ≡ sites tree

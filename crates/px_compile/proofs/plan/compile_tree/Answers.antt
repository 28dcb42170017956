use Rattle.std.proofs.Common.{refl}
use Rattle.px_syntax.specs.Plan.{tree_of_surface}
use Rattle.px_compile.proofs.plan.compile_tree.Goals as goal

pub returns-clause-plan : goal.returns-clause-plan
returns-clause-plan c = record {
  tree = tree_of_surface c.in_ok-tree.tree;
  spelled = c.in_ok-tree.ensures.spelled;
  faultless = c.in_ok-tree.ensures.faultless;
  expanded = refl;
  within = c.in_ok-nodes.ensures.within;
}

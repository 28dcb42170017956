use Rattle.px_syntax.specs.Plan.{tree_of_surface}
use Rattle.px_expand.proofs.Verdicts.{short, expanded}
use Rattle.px_expand.proofs.plan.expand.Goals as goal

pub core-requires : goal.core-requires
core-requires c = short (tree_of_surface c.args.tree.now) c.in_ok-check_size.ensures.within

pub returns-clause-ok : goal.returns-clause-ok
returns-clause-ok c =
    expanded (tree_of_surface c.args.tree.now) c.in_ok-core.field-0 c.requires c.in_ok-core.ensures c.in_ok-check_size.ensures.within

use Rattle.px_syntax.specs.Plan.{tree_of_surface}
use Rattle.px_print.proofs.Plans.{read_again, answered_again}
use Rattle.px_print.proofs.laws.plan_to_text.Goals as goal

pub returns-clause-splits : goal.returns-clause-splits
returns-clause-splits c = read_again (tree_of_surface c.args.tree.now)

pub returns-clause-parsed : goal.returns-clause-parsed
returns-clause-parsed c = answered_again (tree_of_surface c.args.tree.now)

use Rattle.px_syntax.specs.Plan.{tree_of_surface}
use Rattle.px_print.proofs.Plans.{utf8_again}
use Rattle.px_print.proofs.laws.utf8_layout.Goals as goal

pub returns : goal.returns
returns c = utf8_again (tree_of_surface c.args.tree.now)

use Rattle.px_syntax.specs.Plan.{tree_of_surface}
use Rattle.px_print.proofs.Alike.{one_layout}
use Rattle.px_print.proofs.laws.one_layout.Goals as goal

pub returns : goal.returns
returns c = one_layout (tree_of_surface c.args.tree.now) (tree_of_surface c.args.other.now)

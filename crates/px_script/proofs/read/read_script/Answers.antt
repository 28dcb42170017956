use Rattle.px_core.specs.Plan.{tree_of, sites}
use Rattle.px_script.proofs.Fitness.{read_fit}
use Rattle.px_script.proofs.read.read_script.Goals as goal

pub returns-clause-fit : goal.returns-clause-fit
returns-clause-fit c =
    read_fit (sites (tree_of c.args.plan.now)) c.args.bytes.now c.read_lines.result c.requires.size
    (rw c.in_ok-kinds.ensures at c.read_lines.ensures.ok)

use Rattle.px_core.specs.Plan.{tree_of, sites}
use Rattle.px_script.proofs.Fitness.{script_fit}
use Rattle.px_script.proofs.laws.fitness.Goals as goal

pub returns : goal.returns
returns c = script_fit (sites (tree_of c.args.plan.now)) c.args.bytes.now c.args.spelled.now c.requires

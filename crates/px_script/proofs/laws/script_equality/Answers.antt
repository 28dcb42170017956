use Rattle.px_script.proofs.Equality.{script_eq-decides}
use Rattle.px_script.proofs.laws.script_equality.Goals as goal

pub returns : goal.returns
returns c = script_eq-decides c.args.a.now c.args.b.now

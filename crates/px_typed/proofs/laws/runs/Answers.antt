use Rattle.px_typed.proofs.Compiled.{typed}
use Rattle.px_typed.proofs.laws.runs.Goals as goal

pub returns : goal.returns
returns c = λ tree history compiled. typed c.args.bytes.now tree compiled history

use Rattle.px_typed.proofs.Compiled.{front_typed}
use Rattle.px_typed.proofs.laws.logs.Goals as goal

pub returns : goal.returns
returns c = λ tree limit front rest compiled legal. front_typed c.args.bytes.now tree compiled limit front rest legal

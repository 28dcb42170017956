use Rattle.px_flat.specs.Flat.{plan_of}
use Rattle.px_flat.proofs.Sources.{read_only_sources}
use Rattle.px_flat.proofs.laws.sources.Goals as goal

pub returns : goal.returns
returns c = read_only_sources (plan_of c.args._flat.now)

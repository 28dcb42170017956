use Rattle.px_turn.proofs.Makers.{made_once}
use Rattle.px_turn.proofs.laws.each_made_once.Goals as goal

pub returns : goal.returns
returns g c = made_once _ _

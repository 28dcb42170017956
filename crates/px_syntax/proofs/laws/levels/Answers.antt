use Rattle.px_syntax.proofs.Levels.{binary_level, unary_level}
use Rattle.px_syntax.proofs.laws.levels.Goals as goal

pub returns : goal.returns
returns c = record { between = binary_level; before = unary_level }

use Rattle.px_value.proofs.Divisions.{division_law}
use Rattle.px_value.proofs.laws.division.Goals as goal

pub returns-clause-known : goal.returns-clause-known
returns-clause-known c = division_law c.args.a c.args.b c.ranges.a

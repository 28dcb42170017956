use Rattle.px_core.proofs.Halves.{joins, one_joined}
use Rattle.px_core.proofs.laws.joining.Goals as goal

pub returns-clause-joins : goal.returns-clause-joins
returns-clause-joins c = λ op none terms. joins op none terms

pub returns-clause-one : goal.returns-clause-one
returns-clause-one c = λ op none terms whole j. one_joined op none terms whole j

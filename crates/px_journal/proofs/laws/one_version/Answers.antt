use Rattle.px_journal.proofs.Meaning.{one_told, stands_told}
use Rattle.px_journal.proofs.laws.one_version.Goals as goal

pub returns-clause-one : goal.returns-clause-one
returns-clause-one c = λ bytes version other first second. one_told version other bytes first second

pub returns-clause-stands : goal.returns-clause-stands
returns-clause-stands c = λ version bytes text named stands. stands_told version bytes text named stands

use Rattle.px_journal.proofs.Verdicts.{verdict}
use Rattle.px_journal.proofs.laws.either_or.Goals as goal

pub returns : goal.returns
returns c = λ bytes fits something. verdict bytes fits something

use Rattle.px_journal.proofs.Undamaged.{one_place}
use Rattle.px_journal.proofs.laws.one_place.Goals as goal

pub returns : goal.returns
returns c = λ bytes at other first second. one_place bytes at other first second

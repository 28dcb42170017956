use Rattle.px_journal.proofs.Undamaged.{undamaged}
use Rattle.px_journal.proofs.laws.never_both.Goals as goal

pub returns : goal.returns
returns c = λ bytes text history at stands damaged. undamaged bytes text history stands at damaged

use Rattle.px_event.proofs.Entries.{one_entry, entry_short}
use Rattle.px_event.proofs.laws.one_spelling.Goals as goal

pub returns-clause-one : goal.returns-clause-one
returns-clause-one c = one_entry

pub returns-clause-short : goal.returns-clause-short
returns-clause-short c = entry_short

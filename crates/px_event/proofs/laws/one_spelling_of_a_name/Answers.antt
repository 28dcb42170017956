use Rattle.px_event.proofs.Interfaces.{one_named, named_short}
use Rattle.px_event.proofs.laws.one_spelling_of_a_name.Goals as goal

pub returns-clause-one : goal.returns-clause-one
returns-clause-one c = one_named

pub returns-clause-short : goal.returns-clause-short
returns-clause-short c = named_short

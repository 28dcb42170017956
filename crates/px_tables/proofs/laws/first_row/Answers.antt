use Rattle.px_tables.proofs.FirstRows.{deciding, decided, none_holds, nowhere}
use Rattle.px_tables.proofs.laws.first_row.Goals as goal

pub returns-clause-some : goal.returns-clause-some
returns-clause-some c = λ rows arrival. (deciding rows arrival, λ at. decided rows arrival at.0 at.1 at.2)

pub returns-clause-none : goal.returns-clause-none
returns-clause-none c = λ rows. (none_holds rows, nowhere rows)

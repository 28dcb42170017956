use Rattle.px_sem.specs.Run.{is_quiet_after, step_limit}
use Rattle.px_sem.proofs.Settles.{least_found, none_least}
use Rattle.px_sem.proofs.laws.settling.Goals as goal

pub returns-clause-least : goal.returns-clause-least
returns-clause-least c = λ plan world count is. least_found (is_quiet_after plan world) step_limit count is

pub returns-clause-none : goal.returns-clause-none
returns-clause-none c = λ plan world none k within. none_least (is_quiet_after plan world) step_limit none k within

use Rattle.px_sem.proofs.Logs.{legal_log_runs}
use Rattle.px_sem.proofs.laws.logs.Goals as goal

pub returns : goal.returns
returns c = legal_log_runs

use Rattle.px_sem.proofs.Logs.{run_started}
use Rattle.px_desk_tests.proofs.opening.of_plan.Goals as goal

pub returns-clause-started : goal.returns-clause-started
returns-clause-started g c = run_started _ _ c.in-Ok.ensures.settled c.in-Ok.ensures.rest

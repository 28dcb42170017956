use Rattle.px_core.specs.Plan.{tree_of, sites}
use Rattle.px_sem.proofs.Logs.{run_started}
use Rattle.px_session.proofs.reopening.start_text.Goals as goal

pub returns-in-Ok-clause-started : goal.returns-in-Ok-clause-started
returns-in-Ok-clause-started g c =
    run_started (sites (tree_of c.in_ok-plan.plan)) (g.S.Stepper.state c.in-Ok.stepper) c.in-Ok.ensures.settled c.in-Ok.ensures.rest

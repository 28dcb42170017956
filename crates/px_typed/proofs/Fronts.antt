-- Each front of a legal log has a run.
use Rattle.std.proofs.Common.{ℕ, List, [], ◌++◌, IsSome, subst}
use Rattle.px_core.specs.Plan.{Site}
use Rattle.px_sem.specs.Log.{Log, events_of, accepted, IsLegal}
use Rattle.px_sem.specs.Run.{settled_world, started, run}
use Rattle.px_sem.proofs.Logs.{history_of, history-append, legal_log_runs, run_on_front}

pub front_runs :
    (plan : List Site) (limit : ℕ) (front rest : Log) → IsLegal plan [] limit (front ++ rest)
    → IsSome (run plan (events_of (accepted front)))
front_runs plan limit front rest legal =
    run_on_front plan (settled_world (started plan)) (history_of front) (history_of rest)
    (subst (λ events. IsSome (run plan events)) (history-append front rest) (legal_log_runs plan [] limit (front ++ rest) legal))

use Rattle.std.proofs.Common.{◌-◌, ◌^◌}
use Rattle.std.specs.List.{sum_by}
use Rattle.px_crew.proofs.Working.{HaveCome}
use Rattle.px_crew.proofs.rounds.work.Given as goal

abbrev pub invariant-loop-workers : goal.invariant-loop-workers
invariant-loop-workers g l =
    HaveCome (g.K.Desk.start l.desk) (g.K.Desk.fits l.desk) g.K.Desk.seating l.script.threads l.fn.workers l.workers

abbrev pub decreases-loop-workers : goal.decreases-loop-workers
decreases-loop-workers g l = 2 ^ 64 - sum_by (λ w. w.at) l.workers

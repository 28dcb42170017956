use Rattle.std.proofs.Common.{◌≡◌, ◌-◌, None}
use Rattle.std.specs.List.{sum_by}
use Rattle.px_exec.specs.Executive.{plan_of}
use Rattle.px_crew.specs.Crew.{AreAt}
use Rattle.px_crew.proofs.together.work_together.Given as goal

abbrev pub invariant-loop-waits : goal.invariant-loop-waits
invariant-loop-waits g l = record {
  at : AreAt (plan_of g.S.Stepper l.exec) l.exec.opening.history l.exec.log l.script.threads l.places.items;
  is_open : l.exec.failed ≡ None;
  opening : l.exec.opening ≡ l.fn.exec.opening;
}

abbrev pub decreases-loop-waits : goal.decreases-loop-waits
decreases-loop-waits g l = 800001 - sum_by (λ place. place) l.places.items

use Rattle.std.proofs.Common.{◌<◌, ℕ, get_or}
use Rattle.px_exec.specs.Executive.{plan_of}
use Rattle.px_script.specs.declared.todo.Todo.{Todo}
use Rattle.px_crew.specs.Crew.{IsWaiting}
use Rattle.px_crew.specs.Standstill.{IsHeld}
use Rattle.px_crew.proofs.together.wakes.Given as goal

abbrev pub invariant-loop-i : goal.invariant-loop-i
invariant-loop-i g l =
    (j : ℕ) (d : Todo) → j < l.i → IsWaiting (get_or l.threads j d) (get_or l.places j 0)
    → IsHeld (plan_of g.S.Stepper l.exec) l.exec.opening.history l.exec.log (get_or l.threads j d) (get_or l.places j 0)

use Rattle.std.proofs.Common.{◌≡◌, length, take}
use Rattle.std.specs.List.{sum_by}
use Rattle.px_crew.proofs.rounds.line_count.Given as goal

abbrev pub invariant-loop-todo : goal.invariant-loop-todo
invariant-loop-todo l = l.lines ≡ sum_by (λ todo. length todo.lines) (take l.todo-index l.threads)

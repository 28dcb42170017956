use Rattle.std.proofs.Common.{◌≡◌, ◌++◌, take}
use Rattle.px_sem.specs.Text.{step_text}
use Rattle.px_trace.proofs.steps.push_moves.Given as goal

abbrev pub invariant-loop-step : goal.invariant-loop-step
invariant-loop-step l = l.out.items ≡ l.fn.out.items ++ step_text l.number (take l.step-index l.moves)

use Rattle.std.proofs.Common.{◌≡◌, ◌++◌, take}
use Rattle.px_core.specs.Plan.{variable_data}
use Rattle.px_sem.specs.Effects.{initial_values}
use Rattle.px_micro.specs.Turns.{from_cell}
use Rattle.px_micro.proofs.turns.push_initial.Given as goal

abbrev pub invariant-loop-k : goal.invariant-loop-k
invariant-loop-k l =
    l.values.items ≡ l.fn.values.items ++ from_cell l.first (take l.k (initial_values (variable_data l.variable)))

use Rattle.std.proofs.Common.{◌≡◌, ◌++◌, length, map, take}
use Rattle.px_core.specs.Plan.{variable_data}
use Rattle.px_cached.specs.Firsts.{firsts_from}
use Rattle.px_cached.proofs.firsts.push_variables.Given as goal

abbrev pub invariant-loop-variable : goal.invariant-loop-variable
invariant-loop-variable l = l.firsts.items
    ≡ l.initial.firsts.items ++ firsts_from (length l.initial.firsts.items) (take l.variable-index (map variable_data l.variables))

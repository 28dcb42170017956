use Rattle.std.proofs.Common.{◌≡◌, take, map}
use Rattle.px_core.specs.Plan.{variable_data}
use Rattle.px_flat.proofs.laying.copy_each.Given as goal

abbrev pub invariant-loop-variable : goal.invariant-loop-variable
invariant-loop-variable l = map variable_data l.copies.items ≡ map variable_data (take l.variable-index l.variables)

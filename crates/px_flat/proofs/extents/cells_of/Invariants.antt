use Rattle.std.proofs.Common.{◌≡◌, map, sum, take}
use Rattle.px_core.specs.Fit.{cells_of}
use Rattle.px_core.specs.Plan.{variable_data}
use Rattle.px_flat.proofs.extents.cells_of.Given as goal

abbrev pub invariant-loop-variable : goal.invariant-loop-variable
invariant-loop-variable l = l.cells ≡ sum (map cells_of (take l.variable-index (map variable_data l.variables)))

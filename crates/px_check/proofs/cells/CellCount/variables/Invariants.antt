use Rattle.std.proofs.Common.{◌≡◌, map, drop}
use Rattle.px_syntax.specs.Block.{variable_data}
use Rattle.px_syntax.specs.PlanFaults.{variable_cells}
use Rattle.px_check.specs.Cells.{counted}
use Rattle.px_check.proofs.cells.CellCount.variables.Given as goal

abbrev pub invariant-loop-variable : goal.invariant-loop-variable
invariant-loop-variable l =
    counted l.self (map variable_cells (map variable_data (drop l.variable-index l.variables)))
    ≡ counted l.initial.self (map variable_cells (map variable_data l.variables))

use Rattle.std.proofs.Common.{◌≡◌, ◌+◌, map, sum, take}
use Rattle.px_core.specs.Fit.{cells_of}
use Rattle.px_core.specs.Plan.{variable_data}
use Rattle.px_flat.specs.Slots.{slots_from}
use Rattle.px_flat.proofs.slots.Slots.of.Given as goal

abbrev pub invariant-loop-variable : goal.invariant-loop-variable
invariant-loop-variable l =
    (l.map.entries ≡ take l.variable-index (slots_from l.first (map variable_data l.variables)))
    × (l.cell ≡ l.first + sum (map cells_of (take l.variable-index (map variable_data l.variables))))

use Rattle.std.proofs.Common.{◌≡◌, map, drop, flat_map}
use Rattle.px_syntax.specs.Block.{item_data}
use Rattle.px_syntax.specs.PlanFaults.{item_cells}
use Rattle.px_check.specs.Cells.{counted}
use Rattle.px_check.proofs.cells.CellCount.items.Given as goal

abbrev pub invariant-loop-item : goal.invariant-loop-item
invariant-loop-item l =
    counted l.self (flat_map item_cells (map item_data (drop l.item-index l.items)))
    ≡ counted l.initial.self (flat_map item_cells (map item_data l.items))

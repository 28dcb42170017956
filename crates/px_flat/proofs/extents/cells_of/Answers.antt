use Rattle.std.proofs.Common.{◌≡◌, ◌+◌, map, sum, take, arith}
use Rattle.px_flat.proofs.Slotted.{next}
use Rattle.px_core.specs.Fit.{cells_of}
use Rattle.px_core.specs.Plan.{variable_data}
use Rattle.px_flat.proofs.Sums.{sum_front}
use Rattle.px_flat.proofs.extents.cells_of.Goals as goal

next_cells : (c : goal.After-unwrap_or-cells) → c.loop-variable.cells + c.unwrap_or-cells.result
    ≡ sum (map cells_of (take (c.loop-variable.variable-index + 1) (map variable_data c.args.variables.now)))
next_cells c =
    omega (
      arith,
      c.loop-variable.invariant,
      c.unwrap_or-cells.ensures,
      (next _ c.loop-variable.variable-index c.variable-item.result c.loop-variable-test.true c.variable-item.is).cells,
    )

pub overflow_add-cells : goal.overflow_add-cells
overflow_add-cells c =
    omega (
      arith,
      next_cells c,
      c.requires,
      sum_front cells_of (map variable_data c.args.variables.now) (c.loop-variable.variable-index + 1),
    )

pub loop-variable-preserved : goal.loop-variable-preserved
loop-variable-preserved c = next_cells c

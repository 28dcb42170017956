use Rattle.std.proofs.Common.{◌≡◌, ◌+◌, map, sum, take}
use Rattle.std.specs.List.{flat_map}
use Rattle.px_core.specs.Fit.{cells_of}
use Rattle.px_flat.specs.Layout.{first_cell}
use Rattle.px_flat.specs.Row.{site_in}
use Rattle.px_sem.specs.Effects.{initial_values}
use Rattle.px_parts.specs.Parts.{plan_in}
use Rattle.px_micro.specs.Turns.{from_cell}
use Rattle.px_micro.proofs.turns.initial_values.Given as goal

abbrev pub invariant-loop-variable : goal.invariant-loop-variable
invariant-loop-variable l = record {
  values : l.values.items ≡ from_cell (first_cell (plan_in l.parts) l.node)
      (flat_map initial_values (take l.variable-index (site_in (plan_in l.parts) l.node).head.variables));
  cell : l.cell ≡ first_cell (plan_in l.parts) l.node
      + sum (map cells_of (take l.variable-index (site_in (plan_in l.parts) l.node).head.variables));
}

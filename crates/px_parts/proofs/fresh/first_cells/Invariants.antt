use Rattle.std.proofs.Common.{◌≡◌, ◌++◌, replicate}
use Rattle.px_value.specs.declared.value.Value.TheVariants as values
use Rattle.px_flat.specs.Flat.{plan_of}
use Rattle.px_flat.specs.Layout.{variable_cells}
use Rattle.px_parts.specs.Fresh.{all_at_rest}
use Rattle.px_parts.proofs.fresh.first_cells.Given as goal

abbrev pub invariant-loop : goal.invariant-loop
invariant-loop l = l.cells.items ≡ replicate (variable_cells (plan_of l.flat)) values.Unknown ++ all_at_rest l.counter

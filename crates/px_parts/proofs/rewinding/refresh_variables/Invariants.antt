use Rattle.std.proofs.Common.{◌≡◌}
use Rattle.px_flat.specs.Flat.{plan_of}
use Rattle.px_parts.specs.Fresh.{AreFreshUpTo}
use Rattle.px_parts.proofs.rewinding.refresh_variables.Given as goal

abbrev pub invariant-loop-cell : goal.invariant-loop-cell
invariant-loop-cell l = record {
  fresh : AreFreshUpTo (plan_of l.flat) l.cell l.cells.contents;
  seen : l.cells.seen ≡ l.initial.cells.seen;
}

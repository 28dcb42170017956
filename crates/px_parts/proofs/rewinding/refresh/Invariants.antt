use Rattle.std.proofs.Common.{◌≡◌}
use Rattle.px_flat.specs.Flat.{plan_of}
use Rattle.px_flat.specs.Layout.{node_cell}
use Rattle.px_parts.specs.Fresh.{AreFreshUpTo}
use Rattle.px_parts.proofs.rewinding.refresh.Given as goal

abbrev pub invariant-loop-node : goal.invariant-loop-node
invariant-loop-node l = record {
  fresh : AreFreshUpTo (plan_of l.flat) (node_cell (plan_of l.flat) l.node) l.cells.contents;
  seen : l.cells.seen ≡ l.fn.cells.seen;
}

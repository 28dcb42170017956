use Rattle.px_flat.specs.Rows.{sites_of}
use Rattle.px_flat.proofs.Extending.{AreExtended}
use Rattle.px_flat.proofs.extents.extents.Given as goal

abbrev pub invariant-loop-i : goal.invariant-loop-i
invariant-loop-i l = AreExtended (sites_of l.rows) l.extents.items l.first_cell l.i

use Rattle.px_cells.proofs.Noting.{AreLeft}
use Rattle.px_cells.proofs.marked.forget.Given as goal

abbrev pub invariant-loop-at : goal.invariant-loop-at
invariant-loop-at g l = AreLeft l.olds l.changed l.at-index

use Rattle.px_cells.proofs.Noting.{GoesBack}
use Rattle.px_cells.proofs.marked.put_back.Given as goal

abbrev pub invariant-loop-at : goal.invariant-loop-at
invariant-loop-at g l = GoesBack l.initial.olds l.initial.values l.changed l.at-index l.olds l.values

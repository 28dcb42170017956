use Rattle.px_cells.proofs.Flagging.{AreLeftFlagged}
use Rattle.px_cells.proofs.news.unflag.Given as goal

abbrev pub invariant-loop-at : goal.invariant-loop-at
invariant-loop-at l = AreLeftFlagged l.is_noted l.numbers l.at-index

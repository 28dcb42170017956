use Rattle.std.proofs.Common.{arith, sym, ◌∙◌}
use Rattle.px_turn.proofs.Counting.{counts}
use Rattle.px_turn.proofs.turn.Turn.count.Goals as goal

pub load-requires : goal.load-requires
load-requires g c = (c.requires.own.0 ∙ sym c.self.view_is, omega arith, counts _ _ _ _ _ _)

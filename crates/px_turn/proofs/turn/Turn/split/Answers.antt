use Rattle.std.proofs.Common.{arith, sym, ◌∙◌}
use Rattle.px_turn.proofs.Splitting.{splits}
use Rattle.px_turn.proofs.turn.Turn.split.Goals as goal

pub split_seat-requires : goal.split_seat-requires
split_seat-requires g c = (
  c.requires.own.0 ∙ sym c.self.view_is,
  omega arith,
  splits _ _ _ _ _ c.requires.own.1 c.requires.first c.requires.room,
)

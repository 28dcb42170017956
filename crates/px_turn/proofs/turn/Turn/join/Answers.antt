use Rattle.std.proofs.Common.{arith, sym, ◌∙◌}
use Rattle.px_turn.proofs.Joining.{joins}
use Rattle.px_turn.proofs.Looking.{compares}
use Rattle.px_turn.proofs.turn.Turn.join.Goals as goal

pub join_seat-requires : goal.join_seat-requires
join_seat-requires g c = let own = c.requires.own in let other = c.requires.other in (
  own.0.0 ∙ sym c.self.view_is,
  other.0.0 ∙ sym c.self.view_is,
  other.1.0,
  omega arith,
  joins _ _ _ _ _ _ _ own.0.1 other.0.1 other.1.1 own.1.2 other.1.2 c.requires.later,
)

pub load-requires : goal.load-requires
load-requires g c =
    (c.join_seat.ensures.0 ∙ (c.requires.own.0.0 ∙ sym c.self.view_is), omega arith, compares _ _ _ _ _ _)

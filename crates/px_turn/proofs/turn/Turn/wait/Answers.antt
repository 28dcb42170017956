use Rattle.std.proofs.Common.{arith, sym, ◌∙◌}
use Rattle.px_turn.proofs.Looking.{looks_from}
use Rattle.px_turn.proofs.turn.Turn.wait.Goals as goal

pub load-serving-requires : goal.load-serving-requires
load-serving-requires g c = let same = c.loop.invariant in let ticket = c.requires.ticket in (
  same.0 ∙ c.requires.own.0 ∙ sym c.self.view_is,
  omega arith,
  looks_from _ _ _ _ _ _ _ ticket.0 same.1 c.requires.own.1 ticket.1 c.requires.out.1,
)

use Rattle.std.proofs.Common.{arith, sym, ◌∙◌}
use Rattle.px_turn.proofs.Calling.{calls}
use Rattle.px_turn.proofs.turn.Turn.call_next.Goals as goal

pub fetch_add-served-requires : goal.fetch_add-served-requires
fetch_add-served-requires g c = let lies = c.requires.value in (
  c.requires.own.0 ∙ sym c.self.view_is,
  omega arith,
  calls _ _ _ _ _ _ lies.0 (omega arith) c.requires.own.1 c.requires.turn lies.1 lies.2 lies.3,
)

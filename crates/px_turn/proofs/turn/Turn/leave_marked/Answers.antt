use Rattle.std.proofs.Common.{arith}
use Rattle.px_turn.proofs.Marking.{marks_from}
use Rattle.px_turn.proofs.turn.Turn.leave_marked.Goals as goal

pub fetch_add-requires : goal.fetch_add-requires
fetch_add-requires g c = let back = c.put_back.ensures.own in let more = c.requires.value in (
  (cc (back.0, c.requires.own.0, c.self.view_is)),
  omega arith,
  marks_from _ _ _ _ _ c.put_back.new.seat.me _ c.args.value more.0 back.1 c.requires.own.1 c.requires.turn.1
      more.1 c.requires.few,
)

use Rattle.std.proofs.Common.{map}
use Rattle.px_turn.specs.Seats.{view, IsSeatOf, IsOut}
use Rattle.px_desk.specs.Seats.{HasTaken}
use Rattle.px_desk.proofs.seats.gather.Given as goal

abbrev pub invariant-loop-seat : goal.invariant-loop-seat
invariant-loop-seat g l = record {
  own : IsSeatOf l.turn l.first × IsOut l.first;
  taken : HasTaken (view l.fn.first) (map view l.yielded) (view l.first);
}

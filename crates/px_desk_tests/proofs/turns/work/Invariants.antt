use Rattle.std.proofs.Common.{◌≡◌}
use Rattle.px_turn.specs.Seats.{view, IsSeatOf, IsOut}
use Rattle.px_desk_tests.proofs.turns.work.Given as goal

abbrev pub invariant-loop-entry : goal.invariant-loop-entry
invariant-loop-entry g l = record {
  own : IsSeatOf l.turn l.seat × IsOut l.seat;
  number : (view l.seat).number ≡ (view l.fn.seat).number;
  splits : (view l.seat).splits ≡ (view l.fn.seat).splits;
  joined : (view l.seat).joined ≡ (view l.fn.seat).joined;
}

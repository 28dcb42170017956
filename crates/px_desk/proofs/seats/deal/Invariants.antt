use Rattle.std.proofs.Common.{◌≡◌, ◌≤◌, All, map, vec_len, vec_capacity}
use Rattle.px_turn.specs.Seats.{view, IsSeatOf, IsOut}
use Rattle.px_desk.specs.Seats.{split_times, split_from}
use Rattle.px_desk.proofs.seats.deal.Given as goal

abbrev pub invariant-loop-split : goal.invariant-loop-split
invariant-loop-split g l = record {
  own : IsSeatOf l.turn l.first × IsOut l.first;
  first : view l.first ≡ split_times l.split (view l.fn.first);
  others : All (λ seat. IsSeatOf l.turn seat × IsOut seat) l.list.items;
  views : map view l.list.items ≡ split_from (view l.fn.first) l.split;
  long : vec_len l.list ≡ l.split;
  room : l.seats ≤ vec_capacity l.list;
}

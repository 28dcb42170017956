use Rattle.std.proofs.Common.{◌≡◌, ◌≤◌, length, map, take, vec_capacity}
use Rattle.px_crew.specs.Work.{places_of}
use Rattle.px_crew.proofs.engaging.release.Given as goal

abbrev pub invariant-loop-worker : goal.invariant-loop-worker
invariant-loop-worker g l = record {
  made : l.seats.items ≡ map (λ worker. worker.seat) l.yielded;
  long : length l.seats.items ≡ length l.yielded;
  written : take (length l.yielded) l.places ≡ places_of l.yielded;
  as_long : length l.places ≡ length l.fn.places;
  room : length l.fn.workers.items ≤ vec_capacity l.seats;
}

use Rattle.std.proofs.Common.{◌≡◌, ◌≤◌, length, vec_capacity}
use Rattle.px_crew.specs.Work.{workers_of}
use Rattle.px_crew.proofs.engaging.engage.Given as goal

abbrev pub invariant-loop-seat : goal.invariant-loop-seat
invariant-loop-seat g l = record {
  made : l.workers.items ≡ workers_of l.yielded l.places;
  long : length l.workers.items ≡ length l.yielded;
  room : length l.fn.seats.items ≤ vec_capacity l.workers;
}

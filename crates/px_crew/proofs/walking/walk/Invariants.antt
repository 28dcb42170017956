use Rattle.px_crew.specs.Seat.{board_of, HasGoneOn}
use Rattle.px_crew.proofs.Passing.{Walking}
use Rattle.px_crew.proofs.walking.walk.Given as goal

abbrev pub invariant-loop-at : goal.invariant-loop-at
invariant-loop-at g l = record {
  walking : Walking l.todo l.from l.at (board_of (g.K.Desk.start l.desk) (g.K.Desk.seating l.fn.seat)) (board_of (g.K.Desk.start l.desk) (g.K.Desk.seating l.seat));
  own : g.K.Desk.fits l.desk l.seat;
  on : HasGoneOn (g.K.Desk.seating l.fn.seat) (g.K.Desk.seating l.seat);
}

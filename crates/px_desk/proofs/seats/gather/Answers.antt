use Rattle.std.proofs.Common.{length, map, rules}
use Rattle.std.proofs.lemmas.Iterator.Adapters.{YieldsList-from_vec}
use Rattle.std.proofs.lemmas.Iterator.Consumers.{YieldsList-turn}
use Rattle.std.proofs.lemmas.List.{map-append}
use Rattle.px_turn.specs.Seats.{view}
use Rattle.px_desk.proofs.Dealing.{taken_more}
use Rattle.px_desk.proofs.seats.gather.Goals as goal

pub loop-seat-preserved : goal.loop-seat-preserved
loop-seat-preserved g c =
    let t = YieldsList-turn (YieldsList-from_vec c.args.others.items (search rules) (search rules)) c.loop-seat.yielded _ c.loop-seat.yielded_by _ c.next.new.self c.in-Some.seat c.in-Some.is c.next.ensures.steps in
    let later = c.requires.later (length c.loop-seat.yielded) c.in-Some.seat t.0 in
    record {
      own = c.join.ensures.own;
      taken = rw map-append
          (taken_more (view c.args.first) (map view c.loop-seat.yielded) (view c.loop-seat.first) (view c.in-Some.seat) (view c.join.new.seat)
          c.loop-seat.invariant.taken (rw t.1 later.1) c.join.ensures.both c.join.ensures.seen.0 c.join.ensures.seen.1);
    }

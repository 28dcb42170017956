use Rattle.std.proofs.Common.{[], ◌∷◌, ◌++◌, length, get_or, ap, sym, ◌∙◌, rules, arith}
use Rattle.std.proofs.lemmas.Iterator.Adapters.{YieldsList-from_vec}
use Rattle.std.proofs.lemmas.Iterator.Consumers.{YieldsList-turn}
use Rattle.std.proofs.lemmas.List.{length_push}
use Rattle.px_crew.specs.Work.{workers_of}
use Rattle.px_crew.proofs.Engaged.{engaged, engaged_more}
use Rattle.px_crew.proofs.engaging.engage.Goals as goal

pub loop-seat-preserved : goal.loop-seat-preserved
loop-seat-preserved g c =
    let seats = c.loop-seat.yielded in
    let places = c.args.places.now in
    let t = YieldsList-turn (YieldsList-from_vec c.args.seats.items (search rules) (search rules)) seats _ c.loop-seat.yielded_by _ c.next.new.self c.in-Some.seat c.in-Some.is c.next.ensures.steps in
    record {
      made = c.push_reserved.ensures.items
          ∙ ap (λ w. w ++ c.new.result ∷ []) c.loop-seat.invariant.made
          ∙ ap (λ one. workers_of seats places ++ one ∷ [])
          (c.new.ensures ∙ ap (λ k. engaged c.in-Some.seat (get_or places k 0)) (omega (arith, c.len.ensures, c.loop-seat.invariant.long, c.loop-seat.workers.ok.0)))
          ∙ sym (engaged_more seats c.in-Some.seat places (omega (arith, t.0, c.requires.same, c.args.seats.ok.0)));
      long = omega (arith, ap length c.push_reserved.ensures.items, length_push c.loop-seat.workers.items c.new.result, length_push seats c.in-Some.seat, c.loop-seat.invariant.long);
      room = omega (arith, c.push_reserved.ensures.capacity, c.loop-seat.invariant.room);
    }

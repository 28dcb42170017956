use Rattle.std.proofs.Common.{◌≡◌, ◌<◌, ◌∷◌, List, fold, length, All, ap, sym, ◌∙◌, subst, arith}
use Rattle.std.specs.Vec.Iter.{drain_items}
use Rattle.std.proofs.lemmas.List.Elements.{All-head, All-tail}
use Rattle.px_core.specs.Plan.{Site}
use Rattle.px_flat.specs.Flat.{plan_of}
use Rattle.px_micro.specs.declared.turns.Turn.{Turn}
use Rattle.px_micro.specs.Moving.{with_turn, with_turn_act}
use Rattle.px_micro.proofs.Arriving.{turn_length, turn_acts_length}
use Rattle.px_micro.proofs.moving.arrive_all.Goals as goal

pub arrive-requires-clause-node : goal.arrive-requires-clause-node
arrive-requires-clause-node c =
    let at = c.loop-turn in
    let plan : List Site = plan_of c.args.flat.now in
    All-head (λ (turn : Turn). turn.going.node < length plan) c.in-Some.turn (drain_items c.next.new.self)
    (subst (All (λ (turn : Turn). turn.going.node < length plan)) c.in-Some.ensures.steps.0 at.invariant.within)

pub arrive-requires-clause-room : goal.arrive-requires-clause-room
arrive-requires-clause-room c = omega (arith, c.loop-turn.invariant.room, ap length c.in-Some.ensures.steps.0)

pub arrive-requires-clause-acts_room : goal.arrive-requires-clause-acts_room
arrive-requires-clause-acts_room c = omega (arith, c.loop-turn.invariant.acts_room, ap length c.in-Some.ensures.steps.0)

pub loop-turn-preserved : goal.loop-turn-preserved
loop-turn-preserved c =
    let at = c.loop-turn in
    let plan : List Site = plan_of c.args.flat.now in
    let cells = at.cells.contents.values in
    let under = at.actions.contents.values in
    let one = c.in-Some.turn in
    let left = drain_items c.next.new.self in
    let steps : drain_items at.turn-iterator ≡ one ∷ left = c.in-Some.ensures.steps.0 in
    record {
      can = tt;
      finite = tt;
      within = All-tail (λ (turn : Turn). turn.going.node < length plan) one left
          (subst (All (λ (turn : Turn). turn.going.node < length plan)) steps at.invariant.within);
      all_cells = ap length c.arrive.ensures.values ∙ turn_length plan cells one ∙ at.invariant.all_cells;
      all_acts = ap length c.arrive.ensures.acts ∙ turn_acts_length under one ∙ at.invariant.all_acts;
      room = omega (arith, at.invariant.room, c.arrive.ensures.room, ap length steps);
      acts_room = omega (arith, at.invariant.acts_room, c.arrive.ensures.acts_room, ap length steps);
      values = ap (λ cells. fold (with_turn plan) cells left) c.arrive.ensures.values
          ∙ sym (ap (fold (with_turn plan) cells) steps) ∙ at.invariant.values;
      acts = ap (λ under. fold with_turn_act under left) c.arrive.ensures.acts
          ∙ sym (ap (fold with_turn_act under) steps) ∙ at.invariant.acts;
      marked = c.arrive.ensures.marked ∙ at.invariant.marked;
      acts_marked = c.arrive.ensures.acts_marked ∙ at.invariant.acts_marked;
      seen = c.arrive.ensures.seen ∙ at.invariant.seen;
      acts_seen = c.arrive.ensures.acts_seen ∙ at.invariant.acts_seen;
    }

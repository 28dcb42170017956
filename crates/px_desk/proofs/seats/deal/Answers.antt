use Rattle.std.proofs.Common.{[], ◌∷◌, ◌++◌, map, ap, ◌∙◌, arith}
use Rattle.std.proofs.lemmas.List.{map-append}
use Rattle.std.proofs.lemmas.List.Elements.{All-push, All-same}
use Rattle.px_turn.specs.Seats.{view, IsSeatOf, IsOut}
use Rattle.px_desk.proofs.Dealing.{split_more, split_again}
use Rattle.px_desk.proofs.seats.deal.Goals as goal

pub loop-split-preserved : goal.loop-split-preserved
loop-split-preserved g c =
    let now = c.loop-split.invariant in
    let given = c.split.ensures.given in
    record {
      own = c.split.ensures.own;
      first = split_again (view c.args.first) (view c.loop-split.first) (view c.split.new.seat) c.loop-split.split now.first c.split.ensures.kept;
      others = All-same (λ seat. IsSeatOf c.args.turn.now seat × IsOut seat) c.push_reserved.new.self.items (c.loop-split.list.items ++ c.split.result ∷ [])
          c.push_reserved.ensures.items
          (All-push (λ seat. IsSeatOf c.args.turn.now seat × IsOut seat) c.loop-split.list.items c.split.result now.others (given.0, given.1));
      views = ap (map view) c.push_reserved.ensures.items ∙ map-append view c.loop-split.list.items (c.split.result ∷ [])
          ∙ split_more (view c.args.first) (view c.loop-split.first) (view c.split.result) (map view c.loop-split.list.items) c.loop-split.split now.first now.views given.2;
      long = omega (arith, c.push_reserved.ensures.len, now.long);
      room = omega (arith, c.push_reserved.ensures.capacity, now.room);
    }

use Rattle.std.proofs.Common.{◌≡◌, ◌<◌, nat_eq, false, true, length, sym, ap, ◌∙◌, arith}
use Rattle.std.specs.Cmp.{nat_eq_equiv}
use Rattle.std.specs.List.{list_any}
use Rattle.std.proofs.lemmas.List.{get_or_read, length-set}
use Rattle.px_value.proofs.General.{once_push}
use Rattle.px_cells.specs.News.{NewsData}
use Rattle.px_cells.proofs.Flagging.{flagged-push, room-push}
use Rattle.px_cells.proofs.news.News.note.Goals as goal
use Rattle.px_cells.proofs.news.News.note.Goals.{After-index_mut}

below : (c : After-index_mut) → c.args.at < length c.self.inside.is_noted.items
below c = rw (ap (λ (now : NewsData). now.count) c.self.view_is) c.requires

new : (c : After-index_mut) → list_any (nat_eq c.args.at) c.self.inside.numbers.items ≡ false
new c =
    sym (get_or_read c.self.inside.is_noted.items c.args.at c.index.result.now (below c) c.index.ensures false
    ∙ c.self.invariant.flags c.args.at) ∙ c.if-not-index.true

pub push_reserved-requires : goal.push_reserved-requires
push_reserved-requires c =
    let n = c.self.inside in
    let at = (goal.at.push_reserved-requires c).After-index_mut in
    let room = room-push n.is_noted.items n.numbers.items c.self.invariant.flags c.self.invariant.once c.args.at (below at)
    (new at) in
    omega (arith, room, c.self.invariant.room, n.numbers.ok.0)

pub invariant_of-self : goal.invariant_of-self
invariant_of-self c =
    let n = c.self.inside in
    let at = (goal.at.invariant_of-self c).After-index_mut in
    record {
      flags = rw (c.push_reserved.ensures.items) (flagged-push n.is_noted.items n.numbers.items c.self.invariant.flags
          c.args.at (below at));
      once = rw (c.push_reserved.ensures.items) (once_push nat_eq nat_eq_equiv.refl n.numbers.items c.args.at (new at)
          c.self.invariant.once);
      room = omega (arith, c.self.invariant.room, c.push_reserved.ensures.capacity, length-set n.is_noted.items c.args.at true);
    }

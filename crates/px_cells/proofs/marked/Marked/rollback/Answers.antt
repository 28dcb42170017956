use Rattle.std.proofs.Common.{◌≡◌, ◌<◌, ◌^◌, None, is_some, nat_eq, length, get_or, ap, sym, subst, ◌∙◌, arith, rules}
use Rattle.std.specs.List.{list_any}
use Rattle.std.specs.Vec.{with_items}
use Rattle.std.proofs.lemmas.List.{with_items_is}
use Rattle.px_cells.specs.Marks.{at_mark}
use Rattle.px_cells.specs.News.{NewsData, with_numbers}
use Rattle.px_cells.proofs.Flagging.{seen-back}
use Rattle.px_cells.proofs.Noting.{changed_within}
use Rattle.px_cells.proofs.marked.Marked.rollback.Goals as goal

pub note_all-requires : goal.note_all-requires
note_all-requires g c = λ k d within.
    let olds = c.self.inside.olds.items in
    let changed = c.self.inside.changed.items in
    let below = changed_within olds changed k d c.self.invariant.noted (subst (λ cells. k < length cells) c.deref.ensures.value within) in
    let same = ap (λ cells. get_or cells k d) c.deref.ensures.value in
    omega (arith, below, same, c.self.invariant.sized, c.self.invariant.counted)

pub invariant_of-self : goal.invariant_of-self
invariant_of-self g c =
    let m = c.self.inside in
    let many : length c.put_back.new.values ≡ m.values.len = c.put_back.auto.values ∙ c.deref_mut.ensures.len in
    let as_many : length c.put_back.new.olds ≡ m.olds.len = c.put_back.auto.olds ∙ c.deref_mut-2.ensures.len in
    let values = with_items_is m.values c.put_back.new.values many in
    let olds = with_items_is m.olds c.put_back.new.olds as_many in
    let count : length (with_items m.values c.put_back.new.values).items ≡ length m.values.items =
    ap length values ∙ many ∙ m.values.ok.0 in
    record {
      sized = ap length olds ∙ as_many ∙ m.olds.ok.0 ∙ c.self.invariant.sized ∙ sym count;
      small = subst (λ n. n < 2 ^ 32) (sym count) c.self.invariant.small;
      noted = λ at. ap (λ olds. is_some (get_or olds at None)) olds ∙ c.put_back.ensures.olds at
          ∙ sym (ap (list_any (nat_eq at)) c.clear.ensures.items);
      once = search rules;
      unmarked = search rules;
      counted = ap (λ (news : NewsData). news.count) c.note_all.ensures ∙ c.self.invariant.counted ∙ sym count;
      as_seen = rw (
        ap (λ (news : NewsData). news.numbers) c.note_all.ensures ∙ ap (with_numbers m.news.numbers) c.deref.ensures.value,
        values ∙ c.put_back.ensures.values
            ∙ (λ i. at_mark (c.deref_mut-2.ensures.value i) (c.deref_mut.ensures.value i)),
      )
          (seen-back m.olds.items m.values.items m.seen.value.items m.changed.items m.news.numbers c.self.invariant.sized
          c.self.invariant.noted c.self.invariant.as_seen);
    }

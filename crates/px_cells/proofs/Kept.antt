-- What things with a mark keep as a value is written and no old one kept.
use Rattle.std.proofs.Common.{◌≡◌, ℕ, ◌<◌, ◌^◌, ap, sym, ◌∙◌, subst}
use Rattle.std.proofs.lemmas.List.{length-set}
use Rattle.std.specs.Vec.{with_item}
use Rattle.px_cells.specs.declared.marked.Marked.TheInside.{Inside}
use Rattle.px_cells.specs.Keeping.{IsKept}
use Rattle.px_cells.specs.News.{NewsData, noting, with_number}
use Rattle.px_cells.proofs.Flagging.{seen-write}

pub kept_write : {T : Type 0} (m : Inside T) (at : ℕ) (value : T) (news : NewsData) → IsKept m
    → news ≡ noting m.news (with_number m.news.numbers at) → IsKept (record m { values = with_item m.values at value; news = news })
kept_write m at value news kept noted =
    let many = length-set m.values.items at value in
    record {
      sized = kept.sized ∙ sym many;
      small = subst (λ n. n < 2 ^ 32) (sym many) kept.small;
      noted = kept.noted;
      once = kept.once;
      unmarked = kept.unmarked;
      counted = ap (λ (news : NewsData). news.count) noted ∙ kept.counted ∙ sym many;
      as_seen = rw (ap (λ (news : NewsData). news.numbers) noted)
          (seen-write m.values.items m.seen.value.items m.news.numbers at value kept.as_seen);
    }

use Rattle.std.proofs.Common.{◌≡◌, false, inl, inr, ap, sym, ◌∙◌, subst, arith}
use Rattle.std.proofs.lemmas.Bool.{cases_lt}
use Rattle.px_links.specs.Links.{is_absent}
use Rattle.px_cached.specs.Costs.{in_all}
use Rattle.px_cached.proofs.Distinct.{up_to-more}
use Rattle.px_cached.proofs.OneList.{now_noted, still_noted}
use Rattle.px_cached.proofs.Owing.{in_all-pushed}
use Rattle.px_cached.proofs.noticing.all_noted.Goals as goal

pub loop-number-preserved : goal.loop-number-preserved
loop-number-preserved c =
    let so_far = c.loop-number.invariant in
    let before = c.loop-number.noted in
    let after = c.push_back_absent.new.self in
    let number = c.loop-number.number in
    let pushed = c.push_back_absent.ensures in
    record {
      cells = pushed.counts.0 ∙ so_far.cells;
      lists = pushed.counts.1 ∙ so_far.lists;
      owed = λ cost. omega (
        arith,
        ap (in_all cost) pushed.links,
        in_all-pushed cost before number (is_absent before number) (omega (arith, so_far.lists)),
        so_far.owed cost,
        up_to-more cost number,
      );
      all = λ other below. elim (cases_lt other number) [
        | inl sooner ↦ still_noted before after number 0 pushed.holders other (so_far.all other sooner)
        | inr now ↦
            let last : other ≡ number = omega (arith, now, below) in
            subst (λ other. is_absent after other ≡ false) (sym last) (now_noted before after number 0 pushed.holders)
      ];
    }

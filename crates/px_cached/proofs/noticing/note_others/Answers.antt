use Rattle.std.proofs.Common.{◌≡◌, ℕ, ◌⊎◌, inl, inr, false, get_or, ◌∙◌, subst, arith}
use Rattle.std.proofs.lemmas.List.{get_or_default}
use Rattle.std.proofs.lemmas.List.Elements.{AllWithin-more}
use Rattle.std.proofs.lemmas.List.Sums.{sum_by_more}
use Rattle.px_links.specs.Links.{is_absent}
use Rattle.px_cached.specs.Still.{IsStill}
use Rattle.px_cached.proofs.noticing.note_others.Goals as goal

pub loop-part-preserved : goal.loop-part-preserved
loop-part-preserved c =
    let so_far = c.loop-part.invariant in
    let noted = c.note_part.ensures in
    let others = c.args.others.now in
    let at = c.loop-part.part-index in
    record {
      noted = AllWithin-more (λ (part : ℕ). (is_absent c.note_part.new.stale part ≡ false) ⊎ IsStill c.args.asker.now part) others 0 at
          (λ k d from below. elim (so_far.noted k d from below) [
            | inl was ↦ inl (noted.still (get_or others k d) was)
            | inr stays ↦ inr stays
          ])
          (λ d. subst (λ (part : ℕ). (is_absent c.note_part.new.stale part ≡ false) ⊎ IsStill c.args.asker.now part)
          (get_or_default others at 0 d c.loop-part-test.true) noted.noted);
      still = λ other was. noted.still other (so_far.still other was);
      owed = λ cost. omega (arith, noted.owed cost, so_far.owed cost, sum_by_more cost others at 0 c.loop-part-test.true);
      counts = (noted.counts.0 ∙ so_far.counts.0, noted.counts.1 ∙ so_far.counts.1);
    }

pub returns-clause-noted : goal.returns-clause-noted
returns-clause-noted c = λ k d inside. c.loop-part.invariant.noted k d (omega arith) (omega (arith, inside))

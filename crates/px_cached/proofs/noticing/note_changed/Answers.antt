use Rattle.std.proofs.Common.{◌≡◌, ℕ, [], ◌∷◌, ◌++◌, ◌⊎◌, All, false, ap, sym, ◌∙◌, subst, append_assoc, append-nil, arith, sum_by}
use Rattle.std.proofs.lemmas.List.Elements.{All-push}
use Rattle.std.proofs.lemmas.List.Sums.{sum_by_push}
use Rattle.px_links.specs.Links.{is_absent}
use Rattle.px_cached.specs.Still.{IsStill}
use Rattle.px_cached.proofs.Marking.{noted_later}
use Rattle.px_cached.proofs.noticing.note_changed.Goals as goal

pub loop-part-preserved : goal.loop-part-preserved
loop-part-preserved c =
    let so_far = c.loop-part.invariant in
    let noted = c.note_part.ensures in
    let yielded = c.loop-part.yielded in
    let part = c.in-Some.part in
    record {
      front = so_far.front ∙ ap (λ left. yielded ++ left) c.in-Some.ensures.steps
          ∙ sym (append_assoc yielded (part ∷ []) c.next.new.self);
      noted = All-push (λ (part : ℕ). (is_absent c.note_part.new.stale part ≡ false) ⊎ IsStill c.args.asker.now part) yielded part
          (noted_later (IsStill c.args.asker.now) c.loop-part.stale c.note_part.new.stale noted.still yielded so_far.noted) noted.noted;
      still = λ other was. noted.still other (so_far.still other was);
      owed = λ cost. omega (arith, noted.owed cost, so_far.owed cost, sum_by_push cost yielded part);
      counts = (noted.counts.0 ∙ so_far.counts.0, noted.counts.1 ∙ so_far.counts.1);
    }

pub returns-clause-noted : goal.returns-clause-noted
returns-clause-noted c =
    let so_far = c.loop-part.invariant in
    subst (All (λ (part : ℕ). (is_absent c.loop-part.stale part ≡ false) ⊎ IsStill c.args.asker.now part))
    (sym (so_far.front ∙ ap (λ left. c.loop-part.yielded ++ left) c.in-None.ensures.steps.0 ∙ append-nil c.loop-part.yielded))
    so_far.noted

pub returns-clause-owed : goal.returns-clause-owed
returns-clause-owed c = λ cost.
    let so_far = c.loop-part.invariant in
    let all = so_far.front ∙ ap (λ left. c.loop-part.yielded ++ left) c.in-None.ensures.steps.0 ∙ append-nil c.loop-part.yielded in
    omega (arith, so_far.owed cost, ap (sum_by cost) all)

use Rattle.std.proofs.Common.{◌≡◌, ℕ, ◌⊎◌, All, false, map, ap, subst, arith, sum_by}
use Rattle.std.proofs.lemmas.List.Elements.{All-append, All-map}
use Rattle.std.proofs.lemmas.List.Sums.{sum_by-append}
use Rattle.px_links.specs.Links.{is_absent}
use Rattle.px_cached.specs.Still.{IsStill}
use Rattle.px_cached.specs.Watching.{part_of}
use Rattle.px_cached.proofs.Marking.{noted_later}
use Rattle.px_cached.proofs.Turning.{recalls_more}
use Rattle.px_cached.proofs.Watched.{sum_by_parts}
use Rattle.px_cached.proofs.noticing.note_watch.Goals as goal

pub note_crossed-requires-clause-recalls : goal.note_crossed-requires-clause-recalls
note_crossed-requires-clause-recalls c =
    recalls_more c.args.asker.now c.args.stale.now c.note_others.new.stale c.note_others.ensures.still c.requires.recalls

pub returns-clause-noted : goal.returns-clause-noted
returns-clause-noted c =
    let watch = c.args.watch.now in
    let stale = c.note_crossed.new.stale in
    All-append (λ (part : ℕ). (is_absent stale part ≡ false) ⊎ IsStill c.args.asker.now part) watch.others.items
    (map part_of watch.watchers.items)
    (subst (All (λ (part : ℕ). (is_absent stale part ≡ false) ⊎ IsStill c.args.asker.now part)) c.deref.ensures.value
    (noted_later (IsStill c.args.asker.now) c.note_others.new.stale stale c.note_crossed.ensures.still c.deref.result.now
    c.note_others.ensures.noted))
    (All-map (λ (part : ℕ). (is_absent stale part ≡ false) ⊎ IsStill c.args.asker.now part) part_of watch.watchers.items
    c.note_crossed.ensures.noted)

pub returns-clause-owed : goal.returns-clause-owed
returns-clause-owed c = λ cost.
    let watch = c.args.watch.now in
    omega (
      arith,
      c.note_others.ensures.owed cost,
      ap (sum_by cost) c.deref.ensures.value,
      c.note_crossed.ensures.owed cost,
      sum_by-append cost watch.others.items (map part_of watch.watchers.items),
      sum_by_parts cost watch.watchers.items,
    )

use Rattle.std.proofs.Common.{◌≡◌, ◌<◌, false, length, get_or, inl, inr, ap, ◌∙◌, subst, arith}
use Rattle.std.proofs.lemmas.Bool.{cases_lt}
use Rattle.std.proofs.lemmas.List.{get_or_read}
use Rattle.std.proofs.lemmas.List.Elements.{AllWithin-more}
use Rattle.std.proofs.lemmas.List.Sums.{sum_by_more, sum_by-take-le}
use Rattle.px_links.specs.Links.{is_absent}
use Rattle.px_cached.specs.declared.watching.Watcher.{Watcher}
use Rattle.px_cached.specs.Costs.{in_all}
use Rattle.px_cached.proofs.OneList.{now_noted, still_noted}
use Rattle.px_cached.proofs.Owing.{in_all-pushed}
use Rattle.px_cached.proofs.noticing.note_crossed.Goals as goal

pub loop-at-preserved : goal.loop-at-preserved
loop-at-preserved c =
    let so_far = c.loop-at.invariant in
    let before = c.loop-at.stale in
    let after = c.push_back_absent.new.self in
    let pushed = c.push_back_absent.ensures in
    let watchers = c.args.watch.now.watchers.items in
    let at = c.loop-at.at in
    let watcher : Watcher = c.index-watcher.result.now in
    let inside : at < length watchers = omega arith in
    let still = still_noted before after watcher.part 0 pushed.holders in
    record {
      noted = AllWithin-more (λ (watcher : Watcher). is_absent after watcher.part ≡ false) watchers c.crossed-from.result.0 at
          (λ k d from below. still (get_or watchers k d).part (so_far.noted k d from below))
          (λ d. subst (λ (watcher : Watcher). is_absent after watcher.part ≡ false)
          (get_or_read watchers at watcher inside c.index-watcher.ensures d)
          (now_noted before after watcher.part 0 pushed.holders));
      still = λ other was. still other (so_far.still other was);
      owed = λ cost. omega (
        arith,
        ap (in_all cost) pushed.links,
        in_all-pushed cost before watcher.part (is_absent before watcher.part) (omega (arith, so_far.counts.1)),
        so_far.owed cost,
        sum_by_more (λ (watcher : Watcher). cost watcher.part) watchers at watcher inside,
        ap (λ (watcher : Watcher). cost watcher.part) (get_or_read watchers at watcher inside c.index-watcher.ensures watcher),
      );
      counts = (pushed.counts.0 ∙ so_far.counts.0, pushed.counts.1 ∙ so_far.counts.1);
    }

pub returns-clause-noted : goal.returns-clause-noted
returns-clause-noted c = λ k d inside.
    let so_far = c.loop-at.invariant in
    elim (cases_lt k c.crossed-from.result.0) [
      | inl before ↦ elim (c.crossed-from.ensures.below k d (omega arith) before) [
        | inl noted ↦ inl (so_far.still (get_or c.args.watch.now.watchers.items k d).part noted)
        | inr stays ↦ inr stays
      ]
      | inr from ↦ elim (cases_lt k c.crossed-from.result.1) [
        | inl below ↦ inl (so_far.noted k d from (omega (arith, below)))
        | inr behind ↦ elim (c.crossed-from.ensures.above k d behind inside) [
          | inl noted ↦ inl (so_far.still (get_or c.args.watch.now.watchers.items k d).part noted)
          | inr stays ↦ inr stays
        ]
      ]
    ]

pub returns-clause-owed : goal.returns-clause-owed
returns-clause-owed c = λ cost.
    omega (
      arith,
      c.loop-at.invariant.owed cost,
      sum_by-take-le (λ (watcher : Watcher). cost watcher.part) c.args.watch.now.watchers.items c.loop-at.at,
    )

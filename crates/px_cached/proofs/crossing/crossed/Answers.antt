use Rattle.std.proofs.Common.{◌≡◌, ◌-◌, ◌<◌, Bool, List, All, false, true, length, get_or, ap, sym, ◌∙◌, subst, arith, rules}
use Rattle.std.specs.Prelude.{int_le}
use Rattle.std.specs.List.Sorted.{IsPartitionedBy, IsPartitionPoint}
use Rattle.std.proofs.lemmas.List.Sorted.{IsPartitionPoint-from_clause}
use Rattle.px_cached.specs.declared.watching.Watcher.{Watcher}
use Rattle.px_cached.specs.Watching.{HasTold}
use Rattle.px_cached.proofs.Turning.{above_stays, below_stays, parted}
use Rattle.px_cached.proofs.crossing.crossed.Goals as goal
use Rattle.px_cached.proofs.crossing.crossed.Goals.{After-crossed_to}

pub crossed_from-requires-clause-within : goal.crossed_from-requires-clause-within
crossed_from-requires-clause-within c =
    subst (All (λ (watcher : Watcher). watcher.part < length c.args.asker.now.parts.now)) (sym c.deref-2.ensures.value)
    (λ k d inside. (c.requires.reading.2.0.watchers k d inside).0)

pub crossed_to-requires-clause-within : goal.crossed_to-requires-clause-within
crossed_to-requires-clause-within c =
    subst (All (λ (watcher : Watcher). watcher.part < length c.args.asker.now.parts.now)) (sym c.deref-3.ensures.value)
    (λ k d inside. (c.requires.reading.2.0.watchers k d inside).0)

module _ (c : After-crossed_to) where
  abbrev is_reached : Watcher → Bool
  is_reached watcher = int_le watcher.turn.from c.from-number.result

  same : c.from-number.result ≡ c.args.number
  same = search rules

  -- those before the place are reached, and no other
  point : IsPartitionPoint (λ watcher. is_reached watcher ≡ true) (λ watcher. is_reached watcher ≡ false) c.args.watch.now.watchers.items
      c.partition_point-split.result
  point =
      subst (λ (watchers : List Watcher). IsPartitionPoint (λ watcher. is_reached watcher ≡ true) (λ watcher. is_reached watcher ≡ false) watchers
      c.partition_point-split.result) c.deref.ensures.value
      (IsPartitionPoint-from_clause is_reached c.deref.result.now c.partition_point-split.result c.partition_point-split.ensures.partitioned
      (subst (IsPartitionedBy is_reached) (sym c.deref.ensures.value)
      (parted c.args.watch.now.watchers.items c.requires.reading.2.0.rising c.from-number.result))
      (λ a r q h. search rules))

pub returns-clause-below : goal.returns-clause-below
returns-clause-below c = λ k d low below.
    let watch = c.args.watch.now in
    let at = c.crossed_from.result - 1 in
    let reached = point ((goal.at.returns-clause-below c).After-crossed_to) in
    let lengths = ap length c.deref.ensures.value in
    below_stays c.args.asker.now c.args.stale.now c.requires.recalls watch c.args.number c.requires.reading at k d
    (omega (arith, lengths)) (omega arith)
    (subst (λ (watchers : List Watcher). HasTold c.args.asker.now c.args.stale.now true (get_or watchers at d)) c.deref-2.ensures.value
    (c.crossed_from.ensures.told at (omega arith) d))
    (ap (int_le (get_or watch.watchers.items at d).turn.from) (sym (same ((goal.at.returns-clause-below c).After-crossed_to)))
    ∙ reached.0 at d (omega arith) (omega arith))

pub returns-clause-above : goal.returns-clause-above
returns-clause-above c = λ k d above inside.
    let watch = c.args.watch.now in
    let at = c.crossed_to.result in
    let reached = point ((goal.at.returns-clause-above c).After-crossed_to) in
    above_stays c.args.asker.now c.args.stale.now c.requires.recalls watch c.args.number c.requires.reading at k d above inside
    (subst (λ (watchers : List Watcher). HasTold c.args.asker.now c.args.stale.now false (get_or watchers at d)) c.deref-3.ensures.value
    (c.crossed_to.ensures.told (omega (arith, ap length c.deref-3.ensures.value)) d))
    (ap (int_le (get_or watch.watchers.items at d).turn.from) (sym (same ((goal.at.returns-clause-above c).After-crossed_to)))
    ∙ reached.1 at d (omega arith) (omega arith))

-- What a report doesn't cross keeps its truth.
use Rattle.std.proofs.Common.{◌≡◌, ℕ, ◌<◌, ◌≤◌, Bool, true, false, List, length, get_or, Option, Some, ◌⊎◌, inl, inr, refl, ap, sym, ◌∙◌, arith}
use Rattle.std.specs.Prelude.{ℤ, int_le, IsSortedByKey}
use Rattle.std.specs.Bool.{beq}
use Rattle.std.specs.List.Sorted.{IsPartitionedBy}
use Rattle.std.specs.Ordering.{int_cmp, is_lt}
use Rattle.std.proofs.lemmas.Bool.{cases_Bool}
use Rattle.std.proofs.lemmas.Cmp.{int_cmp_total}
use Rattle.std.proofs.lemmas.Int.{ints}
use Rattle.std.proofs.lemmas.List.Sorted.{ranks_by, sorted_far}
use Rattle.px_value.specs.declared.value.Value.{Value}
use Rattle.px_value.specs.declared.value.Value.TheVariants as values
use Rattle.px_core.specs.Plan.{Site}
use Rattle.px_flat.specs.Flat.{plan_of}
use Rattle.px_flat.specs.Sources.{Present}
use Rattle.px_links.specs.Links.{LinksData, is_absent}
use Rattle.px_cached.specs.declared.part.Part.{Part}
use Rattle.px_cached.specs.declared.part.Part.TheVariants as parts
use Rattle.px_cached.specs.declared.still.Asker.{Asker}
use Rattle.px_cached.specs.declared.watching.Turn.{Turn}
use Rattle.px_cached.specs.declared.watching.Watch.{Watch}
use Rattle.px_cached.specs.declared.watching.Watcher.{Watcher}
use Rattle.px_cached.specs.Conditions.{reported}
use Rattle.px_cached.specs.Looking.{IsRight}
use Rattle.px_cached.specs.Network.{part_at, truth_at}
use Rattle.px_cached.specs.Still.{IsStill, now_of}
use Rattle.px_cached.specs.Watching.{Answers, HasTold, IsReading, Recalls, answer}

-- ---- what an answer tells

same_side : (truth a b : Bool) → Some (beq truth a) ≡ Some (beq truth b) → a ≡ b
same_side truth true true same = refl
same_side truth false false same = refl
same_side true true false same = absurd (cc)
same_side true false true same = absurd (cc)
same_side false true false same = absurd (cc)
same_side false false true same = absurd (cc)

-- there was an Integer, on this side of the number from which the comparison turns
abbrev IsOnSide : Turn → Value → Bool → Type 0
IsOnSide turn value reached = (number : ℤ) × ((value ≡ values.Integer number) × (int_le turn.from number ≡ reached))

side : (turn : Turn) (value : Value) (reached : Bool) → answer turn value ≡ Some (beq turn.truth reached) → IsOnSide turn value reached
side turn (values.Integer number) reached is = (number, (refl, same_side turn.truth (int_le turn.from number) reached is))
side turn values.Unknown reached is = absurd (cc)
side turn (values.Boolean truth) reached is = absurd (cc)
side turn (values.Text text) reached is = absurd (cc)
side turn (values.State state) reached is = absurd (cc)
side turn (values.Outcome outcome) reached is = absurd (cc)
side turn (values.Failure failure) reached is = absurd (cc)
side turn (values.Handle handle) reached is = absurd (cc)

-- ---- the order of watchers

not_less : (a b : ℤ) → is_lt (int_cmp a b) ≡ false → int_le b a ≡ true
not_less a b is = grind (arith, ints)

lower_reached : (a b number : ℤ) → int_le a b ≡ true → int_le b number ≡ true → int_le a number ≡ true
lower_reached a b number below reached = grind (arith, ints)

higher_not : (a b number : ℤ) → int_le a b ≡ true → int_le a number ≡ false → int_le b number ≡ false
higher_not a b number below not_reached = grind (arith, ints)

module _ (watchers : List Watcher)
    (rising : IsSortedByKey (λ (watcher : Watcher). watcher.turn.from) int_cmp watchers) where
  rises : (i j : ℕ) (d : Watcher) → i ≤ j → j < length watchers
      → int_le (get_or watchers i d).turn.from (get_or watchers j d).turn.from ≡ true
  rises i j d before inside =
      not_less (get_or watchers j d).turn.from (get_or watchers i d).turn.from
      (sorted_far (λ (a b : Watcher). is_lt (int_cmp a.turn.from b.turn.from))
      (ranks_by int_cmp_total (λ (watcher : Watcher). watcher.turn.from)) watchers rising i j d before inside)

  pub parted : (number : ℤ) → IsPartitionedBy (λ (watcher : Watcher). int_le watcher.turn.from number) watchers
  parted number i j d before inside reached =
      lower_reached (get_or watchers i d).turn.from (get_or watchers j d).turn.from number (rises i j d before inside) reached

module _ (plan : List Site) (name : ℕ) (seen present : Present) where
  answer_seen : (turn : Turn) (truth : Option Bool) (part : Part) → Answers plan name turn part → IsRight plan seen truth part
      → answer turn (reported plan seen name) ≡ truth
  answer_seen turn truth (parts.Whole expr) answers right = sym (answers seen) ∙ sym right
  answer_seen turn truth (parts.Joined joint left other) answers right = absurd answers

  right_still : (turn : Turn) (truth : Option Bool) (part : Part) → Answers plan name turn part
      → answer turn (reported plan seen name) ≡ answer turn (reported plan present name)
      → IsRight plan seen truth part → IsRight plan present truth part
  right_still turn truth (parts.Whole expr) answers same right = right ∙ answers seen ∙ same ∙ sym (answers present)
  right_still turn truth (parts.Joined joint left other) answers same right = tt

module _ (asker : Asker) (stale : LinksData) (recalls : Recalls asker stale) (watch : Watch) (number : ℤ)
    (reading : IsReading asker watch number) where
  abbrev plan : List Site
  plan = plan_of asker.flat.now

  abbrev watchers : List Watcher
  watchers = watch.watchers.items

  -- it is to be looked at, or has its kept truth now
  abbrev Stays : Watcher → Type 0
  Stays watcher = (is_absent stale watcher.part ≡ false) ⊎ IsStill asker watcher.part

  -- where the number before was, by what a watcher tells
  was : (at : ℕ) (d : Watcher) (reached : Bool) → at < length watchers → HasTold asker stale reached (get_or watchers at d)
      → IsOnSide (get_or watchers at d).turn (reported plan recalls.0 reading.0) reached
  was at d reached inside told =
      let watcher : Watcher = get_or watchers at d in
      let is = reading.2.0.watchers at d inside in
      side watcher.turn (reported plan recalls.0 reading.0) reached
      (answer_seen plan reading.0 recalls.0 (now_of asker) watcher.turn (truth_at asker.truths.now watcher.part)
      (part_at asker.parts.now watcher.part) (is.1 plan) (recalls.1 watcher.part is.0 told.0) ∙ told.1)

  stays : (at : ℕ) (d : Watcher) (old : ℤ) → at < length watchers → reported plan recalls.0 reading.0 ≡ values.Integer old
      → int_le (get_or watchers at d).turn.from old ≡ int_le (get_or watchers at d).turn.from number → Stays (get_or watchers at d)
  stays at d old inside seen_is same =
      let watcher : Watcher = get_or watchers at d in
      let is = reading.2.0.watchers at d inside in
      elim (cases_Bool (is_absent stale watcher.part)) [
        | inr noted ↦ inl noted
        | inl absent ↦ inr (right_still plan reading.0 recalls.0 (now_of asker) watcher.turn (truth_at asker.truths.now watcher.part)
            (part_at asker.parts.now watcher.part) (is.1 plan)
            (ap (answer watcher.turn) seen_is ∙ ap (λ reached. Some (beq watcher.turn.truth reached)) same
            ∙ sym (ap (answer watcher.turn) reading.2.1))
            (recalls.1 watcher.part is.0 absent))
      ]

  pub below_stays : (at k : ℕ) (d : Watcher) → at < length watchers → k ≤ at → HasTold asker stale true (get_or watchers at d)
      → int_le (get_or watchers at d).turn.from number ≡ true → Stays (get_or watchers k d)
  below_stays at k d inside before told reached =
      let old = was at d true inside told in
      let from = (get_or watchers k d).turn.from in
      let up_to = (get_or watchers at d).turn.from in
      let rise = rises watchers reading.2.0.rising k at d before inside in
      stays k d old.0 (omega (arith, inside, before)) old.1.0
      (lower_reached from up_to old.0 rise old.1.1 ∙ sym (lower_reached from up_to number rise reached))

  pub above_stays : (at k : ℕ) (d : Watcher) → at ≤ k → k < length watchers → HasTold asker stale false (get_or watchers at d)
      → int_le (get_or watchers at d).turn.from number ≡ false → Stays (get_or watchers k d)
  above_stays at k d behind inside told not_reached =
      let old = was at d false (omega (arith, behind, inside)) told in
      let from = (get_or watchers at d).turn.from in
      let up_to = (get_or watchers k d).turn.from in
      let rise = rises watchers reading.2.0.rising at k d behind inside in
      stays k d old.0 inside old.1.0
      (higher_not from up_to old.0 rise old.1.1 ∙ sym (higher_not from up_to number rise not_reached))

-- with more to be looked at
pub recalls_more : (asker : Asker) (old new : LinksData) → ((part : ℕ) → is_absent old part ≡ false → is_absent new part ≡ false)
    → Recalls asker old → Recalls asker new
recalls_more asker old new still recalls = (
  recalls.0,
  λ part inside absent. recalls.1 part inside (elim (cases_Bool (is_absent old part)) [
    | inl is ↦ is
    | inr noted ↦ let noted_still : is_absent new part ≡ false = still part noted in absurd (cc)
  ]),
)

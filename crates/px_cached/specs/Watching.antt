-- Which parts compare what is reported under a name with a constant, and what a report leaves as it is.
use Rattle.std.specs.Prelude.{◌≡◌, ℕ, ℤ, ◌<◌, Bool, true, List, ◌++◌, length, map, slice_index_or, int_le, Option, Some, None, All, IsPermutation, IsSortedByKey}
use Rattle.std.specs.Bool.{beq}
use Rattle.std.specs.Ordering.{int_cmp}
use Rattle.px_value.specs.declared.value.Value.{Value}
use Rattle.px_value.specs.declared.value.Value.TheVariants as values
use Rattle.px_core.specs.Plan.{Site}
use Rattle.px_flat.specs.Flat.{plan_of}
use Rattle.px_flat.specs.Lookups.{lookups_of}
use Rattle.px_flat.specs.NumberedData.{expr_data}
use Rattle.px_flat.specs.Sources.{Present, Reports}
use Rattle.px_links.specs.Links.{LinksData, is_absent}
use Rattle.px_listen.specs.Listening.{ListenData, dependents_of}
use Rattle.px_cached.specs.declared.part.Part.{Part}
use Rattle.px_cached.specs.declared.part.Part.TheVariants as parts
use Rattle.px_cached.specs.declared.still.Asker.{Asker}
use Rattle.px_cached.specs.declared.watching.Turn.{Turn}
use Rattle.px_cached.specs.declared.watching.Watch.{Watch}
use Rattle.px_cached.specs.declared.watching.Watcher.{Watcher}
use Rattle.px_cached.specs.Conditions.{reported, source_number, truth_in}
use Rattle.px_cached.specs.Looking.{AreRight}
use Rattle.px_cached.specs.Network.{part_at, truth_at}
use Rattle.px_cached.specs.Still.{now_of}

-- The truth of a comparison with a constant, by where it turns. UNKNOWN of what is no Integer.
abbrev pub answer : Turn → Value → Option Bool
answer turn (values.Integer number) = Some (beq turn.truth (int_le turn.from number))
answer turn value = None

-- whatever is present, the part has that truth of what is reported
abbrev pub Answers : List Site → ℕ → Turn → Part → Type 0
Answers plan name turn (parts.Whole expr) =
    (present : Present) → truth_in plan present (expr_data expr) ≡ answer turn (reported plan present name)
Answers plan name turn (parts.Joined joint left right) = ⊥

abbrev pub IsWatcher : List Part → ℕ → Watcher → Type 0
IsWatcher network name watcher =
    (watcher.part < length network) × ((plan : List Site) → Answers plan name watcher.turn (part_at network watcher.part))

abbrev pub part_of : Watcher → ℕ
part_of watcher = watcher.part

abbrev pub parts_of : Watch → List ℕ
parts_of watch = watch.others.items ++ map part_of watch.watchers.items

-- its parts are the dependents, and the watchers stand by the numbers from which they turn
pub record IsWatch (network : List Part) (name : ℕ) (dependents : List ℕ) (watch : Watch) : Type 0 where
  pub each : IsPermutation (parts_of watch) dependents
  pub within : All (λ part. part < length network) watch.others.items
  pub watchers : All (IsWatcher network name) watch.watchers.items
  pub rising : IsSortedByKey (λ (watcher : Watcher). watcher.turn.from) int_cmp watch.watchers.items

-- each name's dependents, as it is read without a tolerance
pub record AreWatching (plan : List Site) (network : List Part) (listeners : ListenData) (watches : List Watch) : Type 0 where
  pub names : length watches ≡ length (lookups_of plan)
  pub each : (name : ℕ) (d : Watch) → name < length watches
      → IsWatch network name (dependents_of listeners (source_number plan (Reports name None))) (slice_index_or watches name d)

-- ---- what a report leaves as it is

-- the kept truths were right before, but for what is to be looked at again
abbrev pub Recalls : Asker → LinksData → Type 0
Recalls asker stale =
    (seen : Present) × AreRight (plan_of asker.flat.now) seen asker.parts.now asker.truths.now stale

-- the watch is of a name under which this number is reported
abbrev pub IsReading : Asker → Watch → ℤ → Type 0
IsReading asker watch number = (name : ℕ) × (dependents : List ℕ) × (IsWatch asker.parts.now name dependents watch
    × (reported (plan_of asker.flat.now) (now_of asker) name ≡ values.Integer number))

-- the kept truth of the watcher tells whether its number was reached before
abbrev pub HasTold : Asker → LinksData → Bool → Watcher → Type 0
HasTold asker stale reached watcher = (is_absent stale watcher.part ≡ true)
    × (truth_at asker.truths.now watcher.part ≡ Some (beq watcher.turn.truth reached))

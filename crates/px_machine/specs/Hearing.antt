-- What an event reports, and what is touched by it.
use Rattle.std.specs.Prelude.{◌≡◌, ℕ, true, false, List, [], position, Option, Some, None}
use Rattle.std.specs.Option.{unwrap_or}
use Rattle.px_core.specs.Plan.{Site, is_same}
use Rattle.px_event.specs.declared.event.Event.{Event}
use Rattle.px_event.specs.declared.event.Event.TheVariants as events
use Rattle.px_flat.specs.Lookups.{lookups_of}
use Rattle.px_flat.specs.Sources.{Reports, IsSameReport}
use Rattle.px_lookup.specs.Reports.{HasStayed}
use Rattle.px_cached.specs.Cached.{CachedData, is_touched}
use Rattle.px_cached.specs.Conditions.{source_number}
use Rattle.px_parts.specs.declared.parts.Parts.{Parts}
use Rattle.px_parts.specs.Parts.{plan_in}

-- the lookup name that an event reports, where the plan looks it up
abbrev pub heard_by : List Site → Event → Option ℕ
heard_by plan (events.Report name args value) = position (is_same name) (lookups_of plan)
heard_by plan (events.Handle node handle) = None
heard_by plan (events.Return node value) = None
heard_by plan (events.AbortDone node) = None
heard_by plan (events.Acknowledged node) = None

-- More is touched. Of what is read under this name with this tolerance each state reads as at the mark, where it is untouched.
pub record HasHeardLatched (parts : Parts) (old new : CachedData) (lookup tolerance : ℕ) : Type 0 where
  pub flat : new.flat ≡ old.flat
  pub truths : new.truths ≡ old.truths
  pub seen : new.seen ≡ old.seen
  pub others : (source : ℕ) → is_touched old source ≡ true → is_touched new source ≡ true
  pub stayed : is_touched new (source_number (plan_in parts) (Reports lookup (Some tolerance))) ≡ false
      → HasStayed parts.reports tolerance

-- the same with each tolerance, and with none
pub record HasHeard (parts : Parts) (old new : CachedData) (lookup : ℕ) : Type 0 where
  pub flat : new.flat ≡ old.flat
  pub truths : new.truths ≡ old.truths
  pub seen : new.seen ≡ old.seen
  pub others : (source : ℕ) → is_touched old source ≡ true → is_touched new source ≡ true
  pub stayed : (tolerance : Option ℕ)
      → is_touched new (source_number (plan_in parts) (Reports lookup tolerance)) ≡ false
      → IsSameReport (plan_in parts) (unwrap_or parts.reports.marked []) parts.reports.reports lookup tolerance

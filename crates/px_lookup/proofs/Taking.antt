-- What the semantics' taking of an event does to the reports.
use Rattle.std.proofs.Common.{◌≡◌, Bool, true, false, List, Option, Some, None, refl}
use Rattle.std.specs.Prelude.{if◌then◌else◌}
use Rattle.px_core.specs.Plan.{Site}
use Rattle.px_event.specs.declared.event.Event.{Event}
use Rattle.px_event.specs.declared.event.Event.TheVariants as events
use Rattle.px_sem.specs.Effects.{Write}
use Rattle.px_sem.specs.Conflicts.{target_of}
use Rattle.px_sem.specs.Events.{take, counts, changed, returned, with_write, action_at, body_at}
use Rattle.px_sem.specs.Tolerances.{tolerances}
use Rattle.px_sem.specs.World.{World}
use Rattle.px_lookup.specs.Reports.{reports_after}

written : (plan : List Site) (world : World) (write : Option Write) → (with_write plan world write).reports ≡ world.reports
written plan world None = refl
written plan world (Some write) = refl

reports-changed : (plan : List Site) (world : World) (event : Event)
    → (changed plan world event).reports ≡ reports_after (tolerances plan) event world.reports
reports-changed plan world (events.Report name args value) = refl
reports-changed plan world (events.Handle node handle) = refl
reports-changed plan world (events.Return node given) =
    written plan world (returned plan (target_of (body_at plan node)) (action_at world node) given)
reports-changed plan world (events.AbortDone node) = refl
reports-changed plan world (events.Acknowledged node) = refl

-- the reports after an event are those of the world after it
pub reports-take : (plan : List Site) (world : World) (event : Event)
    → (take plan world event).reports ≡ reports_after (tolerances plan) event world.reports
reports-take plan world event = by event (counts plan world event) refl
  where
    by : (asked : Event) (counted : Bool) → counts plan world asked ≡ counted
        → (if counted then changed plan world asked else world).reports ≡ reports_after (tolerances plan) asked world.reports
    by asked true is = reports-changed plan world asked
    by (events.Report name args value) false is = cc
    by (events.Handle node handle) false is = refl
    by (events.Return node given) false is = refl
    by (events.AbortDone node) false is = refl
    by (events.Acknowledged node) false is = refl

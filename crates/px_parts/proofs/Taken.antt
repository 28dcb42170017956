-- The world after an event, by its nodes and by its reports.
use Rattle.std.proofs.Common.{◌≡◌, List, ap, sym, ◌∙◌}
use Rattle.px_core.specs.Plan.{Site}
use Rattle.px_event.specs.declared.event.Event.{Event}
use Rattle.px_sem.specs.Events.{take}
use Rattle.px_sem.specs.Tolerances.{tolerances}
use Rattle.px_sem.specs.World.{World}
use Rattle.px_lookup.specs.Reports.{reports_after}
use Rattle.px_lookup.proofs.Taking.{reports-take}

pub world_taken : (plan : List Site) (event : Event) (old new : World) → new.nodes ≡ (take plan old event).nodes
    → new.reports ≡ reports_after (tolerances plan) event old.reports → new ≡ take plan old event
world_taken plan event old new nodes reports =
    ap (λ nodes. record { nodes = nodes; reports = new.reports }) nodes
    ∙ ap (λ reports. record { nodes = (take plan old event).nodes; reports = reports })
    (reports ∙ sym (reports-take plan old event))

use Rattle.std.proofs.Common.{length}
use Rattle.px_flat.specs.Flat.{plan_of}
use Rattle.px_links.specs.Lists.{nth}
use Rattle.px_cached.specs.Cached.{present_in}
use Rattle.px_cached.proofs.Refreshing.{IsLooking}
use Rattle.px_cached.proofs.looking.Kept.refresh.Given as goal

abbrev pub invariant-stale : goal.invariant-stale
invariant-stale l = IsLooking (plan_of l.flat) (present_in l.cells l.reports) l.initial.self l.self
    l.initial.changed l.changed l.list l.looks

abbrev pub decreases-stale : goal.decreases-stale
decreases-stale l = length (nth l.self.stale.lists 0)

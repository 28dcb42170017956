use Rattle.std.proofs.Common.{length}
use Rattle.px_links.specs.Lists.{nth}
use Rattle.px_cached.specs.Still.{IsStill}
use Rattle.px_cached.proofs.Marking.{IsSoFar}
use Rattle.px_cached.proofs.noticing.notice.Given as goal

abbrev pub invariant-touched : goal.invariant-touched
invariant-touched l = IsSoFar (IsStill l.asker) l.listeners l.initial.touched l.touched l.initial.stale l.stale

abbrev pub decreases-touched : goal.decreases-touched
decreases-touched l = length (nth l.touched.lists 0)

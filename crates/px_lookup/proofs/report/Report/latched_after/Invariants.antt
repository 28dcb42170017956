use Rattle.std.proofs.Common.{◌≡◌, map, take}
use Rattle.px_sem.specs.Events.{latched_then}
use Rattle.px_lookup.proofs.report.Report.latched_after.Given as goal

abbrev pub invariant-loop-kept : goal.invariant-loop-kept
invariant-loop-kept l = l.latched.items ≡ map (latched_then l.given) (take l.kept-index l.kept-items)

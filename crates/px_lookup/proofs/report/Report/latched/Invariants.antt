use Rattle.std.proofs.Common.{◌≡◌, nat_eq, drop}
use Rattle.std.specs.Map.{lookup}
use Rattle.px_lookup.proofs.report.Report.latched.Given as goal

abbrev pub invariant-loop-kept : goal.invariant-loop-kept
invariant-loop-kept l =
    lookup (nat_eq l.tolerance) l.kept-items ≡ lookup (nat_eq l.tolerance) (drop l.kept-index l.kept-items)

use Rattle.std.proofs.Common.{◌≡◌, map, take}
use Rattle.px_lookup.proofs.report.Report.first.Given as goal

abbrev pub invariant-loop-tolerance : goal.invariant-loop-tolerance
invariant-loop-tolerance l =
    l.latched.items ≡ map (λ tolerance. (tolerance, l.given)) (take l.tolerance-index l.tolerances)

use Rattle.std.proofs.Common.{take, All}
use Rattle.px_lookup.specs.Undoing.{IsAsLatched}
use Rattle.px_lookup.proofs.reports.Reports.has_moved.Given as goal

abbrev pub invariant-loop-change : goal.invariant-loop-change
invariant-loop-change l =
    All (IsAsLatched l.self-inside.values.entries l.tolerance) (take l.change-index l.change-items)

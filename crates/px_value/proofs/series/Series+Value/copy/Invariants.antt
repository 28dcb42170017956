use Rattle.std.proofs.Common.{◌≡◌, take}
use Rattle.px_value.proofs.series.Series+Value.copy.Given as goal

-- the values so far are copied
abbrev pub invariant-loop-value : goal.invariant-loop-value
invariant-loop-value l = l.items.items ≡ take l.value-index l.self

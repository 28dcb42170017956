use Rattle.std.proofs.Common.{◌≡◌, ◌++◌, replicate}
use Rattle.px_value.specs.declared.value.Value.TheVariants as values
use Rattle.px_parts.proofs.fresh.push_variables.Given as goal

abbrev pub invariant-loop : goal.invariant-loop
invariant-loop l = l.cells.items ≡ l.initial.cells.items ++ replicate l.counter values.Unknown

use Rattle.std.proofs.Common.{◌≡◌, length}
use Rattle.px_flat_tests.proofs.bench.unknown.Given as goal

abbrev pub invariant-loop : goal.invariant-loop
invariant-loop l = length l.values.items ≡ l.counter

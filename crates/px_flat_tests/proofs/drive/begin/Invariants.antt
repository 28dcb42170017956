use Rattle.std.proofs.Common.{◌≡◌}
use Rattle.px_flat_tests.proofs.drive.begin.Given as goal

abbrev pub invariant-loop-node : goal.invariant-loop-node
invariant-loop-node l = l.bench ≡ l.node-end

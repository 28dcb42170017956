use Rattle.std.proofs.Common.{◌≡◌, length}
use Rattle.px_syntax.specs.Operator.{binary_in}
use Rattle.px_syntax.proofs.operator.binary_in.Given as goal

abbrev pub invariant-loop-rows : goal.invariant-loop-rows
invariant-loop-rows l = binary_in l.rows l.kind ≡ binary_in l.initial.rows l.kind

abbrev pub decreases-loop-rows : goal.decreases-loop-rows
decreases-loop-rows l = length l.rows

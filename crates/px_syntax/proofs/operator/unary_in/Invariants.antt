use Rattle.std.proofs.Common.{◌≡◌, length}
use Rattle.px_syntax.specs.Operator.{unary_in}
use Rattle.px_syntax.proofs.operator.unary_in.Given as goal

abbrev pub invariant-loop-rows : goal.invariant-loop-rows
invariant-loop-rows l = unary_in l.rows l.kind ≡ unary_in l.initial.rows l.kind

abbrev pub decreases-loop-rows : goal.decreases-loop-rows
decreases-loop-rows l = length l.rows

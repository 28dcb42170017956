use Rattle.std.proofs.Common.{◌≡◌, length}
use Rattle.px_syntax.specs.Operator.{level_in}
use Rattle.px_syntax.proofs.operator.level_in.Given as goal

abbrev pub invariant-loop-rows : goal.invariant-loop-rows
invariant-loop-rows l = level_in l.rows l.operator ≡ level_in l.initial.rows l.operator

abbrev pub decreases-loop-rows : goal.decreases-loop-rows
decreases-loop-rows l = length l.rows

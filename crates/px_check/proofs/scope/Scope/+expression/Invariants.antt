use Rattle.std.proofs.Common.{◌≡◌, map, drop}
use Rattle.px_syntax.specs.Expr.{term_of, in_turn}
use Rattle.px_syntax.specs.ExprFaults.{argument_faults}
use Rattle.px_syntax.specs.Scope.{parameter_types}
use Rattle.px_check.specs.Found.{noted}
use Rattle.px_check.proofs.scope.Scope.+expression.Given as goal

abbrev pub invariant-arguments-loop-place : goal.invariant-arguments-loop-place
invariant-arguments-loop-place l =
    noted l.found
    (argument_faults l.self (drop l.place (parameter_types l.parameters)) (in_turn (map term_of (drop l.place l.args))))
    ≡ noted l.initial.found (argument_faults l.self (parameter_types l.parameters) (in_turn (map term_of l.args)))

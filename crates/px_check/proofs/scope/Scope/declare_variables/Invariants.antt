use Rattle.std.proofs.Common.{◌≡◌, map, length}
use Rattle.px_syntax.specs.Block.{variable_data}
use Rattle.px_syntax.specs.BlockFaults.{visible_as}
use Rattle.px_check.specs.Scope.{with_variables}
use Rattle.px_check.proofs.scope.Scope.declare_variables.Given as goal

abbrev pub invariant-loop-variable : goal.invariant-loop-variable
invariant-loop-variable l =
    with_variables (map (visible_as l.of_type) (map variable_data l.rest)) l.self
    ≡ with_variables (map (visible_as l.of_type) (map variable_data l.variables)) l.initial.self

abbrev pub decreases-loop-variable : goal.decreases-loop-variable
decreases-loop-variable l = length l.rest

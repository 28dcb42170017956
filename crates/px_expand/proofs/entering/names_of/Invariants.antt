use Rattle.std.proofs.Common.{◌≡◌, map, take}
use Rattle.px_core.specs.Plan.{variable_data}
use Rattle.px_scope.specs.Scope.{each_once}
use Rattle.px_expand.proofs.entering.names_of.Given as goal

abbrev pub invariant-loop-variable : goal.invariant-loop-variable
invariant-loop-variable l =
    l.names.keys ≡ each_once (map (λ variable. variable.name) (map variable_data (take l.variable-index l.variables)))

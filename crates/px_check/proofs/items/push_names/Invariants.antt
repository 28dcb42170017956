use Rattle.std.proofs.Common.{◌≡◌, ◌++◌, map, take}
use Rattle.px_syntax.specs.Block.{variable_data}
use Rattle.px_check.proofs.items.push_names.Given as goal

abbrev pub invariant-loop-variable : goal.invariant-loop-variable
invariant-loop-variable l =
    map (λ identifier. identifier.now) l.identifiers.items
    ≡ map (λ identifier. identifier.now) l.initial.identifiers.items
    ++ map (λ variable. variable.name) (map variable_data (take l.variable-index l.variables))

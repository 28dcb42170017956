use Rattle.std.proofs.Common.{◌≡◌, ◌++◌, map, take}
use Rattle.px_syntax.specs.Block.{variable_data as text_variable}
use Rattle.px_core.specs.Plan.{variable_data}
use Rattle.px_scope.specs.Items.{variable_of}
use Rattle.px_scope.proofs.items.add_variables.Given as goal

abbrev pub invariant-loop-variable : goal.invariant-loop-variable
invariant-loop-variable l =
    map variable_data l.made.items
    ≡ map variable_data l.fn.made.items
    ++ map (λ variable. variable_of l.of_type (text_variable variable)) (take l.variable-index l.variable-items)

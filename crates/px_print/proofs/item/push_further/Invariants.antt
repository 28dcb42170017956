use Rattle.std.proofs.Common.{◌≡◌, ◌++◌, codes, map, take, flat_map}
use Rattle.px_syntax.specs.Block.{variable_data}
use Rattle.px_print.specs.BlockLayout.{variable_text}
use Rattle.px_print.proofs.item.push_further.Given as goal

abbrev pub invariant-loop-variable : goal.invariant-loop-variable
invariant-loop-variable l =
    l.out.items
    ≡ l.initial.out.items
    ++ flat_map (λ variable. codes ", " ++ variable_text variable) (map variable_data (take l.variable-index l.variables))

use Rattle.std.proofs.Common.{◌≡◌, map, drop, flat_map}
use Rattle.px_syntax.specs.Block.{variable_data}
use Rattle.px_syntax.specs.BlockFaults.{variable_faults}
use Rattle.px_syntax.specs.ValueType.{named_type}
use Rattle.px_check.specs.Found.{noted}
use Rattle.px_check.proofs.items.note_variables.Given as goal

abbrev pub invariant-loop-variable : goal.invariant-loop-variable
invariant-loop-variable l =
    noted l.found (flat_map (variable_faults (named_type l.of_type)) (map variable_data (drop l.variable-index l.variables)))
    ≡ noted l.initial.found (flat_map (variable_faults (named_type l.of_type)) (map variable_data l.variables))

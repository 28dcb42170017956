use Rattle.std.proofs.Common.{◌≡◌, map, take}
use Rattle.px_syntax.specs.Block.{item_data}
use Rattle.px_core.specs.Plan.{variable_data}
use Rattle.px_scope.specs.Items.{variables_of}
use Rattle.px_scope.proofs.items.variables_of.Given as goal

abbrev pub invariant-loop-item : goal.invariant-loop-item
invariant-loop-item l = map variable_data l.made.items ≡ variables_of (map item_data (take l.item-index l.items))

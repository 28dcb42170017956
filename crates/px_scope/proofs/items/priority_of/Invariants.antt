use Rattle.std.proofs.Common.{◌≡◌, map, length}
use Rattle.px_syntax.specs.Block.{item_data}
use Rattle.px_scope.specs.Items.{priority_of}
use Rattle.px_scope.proofs.items.priority_of.Given as goal

abbrev pub invariant-loop-item : goal.invariant-loop-item
invariant-loop-item l = priority_of (map item_data l.items) ≡ priority_of (map item_data l.fn.items)

abbrev pub decreases-loop-item : goal.decreases-loop-item
decreases-loop-item l = length l.items

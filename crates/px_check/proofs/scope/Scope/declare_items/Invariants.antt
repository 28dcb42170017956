use Rattle.std.proofs.Common.{◌≡◌, map, flat_map, length}
use Rattle.px_syntax.specs.Block.{item_data}
use Rattle.px_syntax.specs.BlockFaults.{visible_in}
use Rattle.px_check.specs.Scope.{with_variables}
use Rattle.px_check.proofs.scope.Scope.declare_items.Given as goal

abbrev pub invariant-loop-item : goal.invariant-loop-item
invariant-loop-item l =
    with_variables (flat_map visible_in (map item_data l.rest)) l.self
    ≡ with_variables (flat_map visible_in (map item_data l.items)) l.initial.self

abbrev pub decreases-loop-item : goal.decreases-loop-item
decreases-loop-item l = length l.rest

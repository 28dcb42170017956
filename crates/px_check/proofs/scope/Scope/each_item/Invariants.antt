use Rattle.std.proofs.Common.{◌≡◌, map, drop, flat_map}
use Rattle.px_syntax.specs.Block.{item_data}
use Rattle.px_syntax.specs.BlockFaults.{item_faults}
use Rattle.px_check.specs.Found.{noted}
use Rattle.px_check.proofs.scope.Scope.each_item.Given as goal

abbrev pub invariant-loop-item : goal.invariant-loop-item
invariant-loop-item l =
    noted l.found (flat_map (item_faults l.self) (map item_data (drop l.item-index l.items)))
    ≡ noted l.initial.found (flat_map (item_faults l.self) (map item_data l.items))

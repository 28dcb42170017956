use Rattle.std.proofs.Common.{◌≡◌, map, take, flat_map}
use Rattle.px_syntax.specs.Block.{item_data}
use Rattle.px_syntax.specs.BlockFaults.{identifiers_in}
use Rattle.px_check.proofs.items.identifiers_in.Given as goal

abbrev pub invariant-loop-item : goal.invariant-loop-item
invariant-loop-item l =
    map (λ identifier. identifier.now) l.identifiers.items
    ≡ flat_map identifiers_in (map item_data (take l.item-index l.items))

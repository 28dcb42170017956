use Rattle.std.proofs.Common.{◌≡◌, [], map, drop, flat_map}
use Rattle.px_syntax.specs.Block.{item_data}
use Rattle.px_syntax.specs.BlockFaults.{is_same_once, once_in, repeated}
use Rattle.px_syntax.specs.declared.fault.FaultKind.TheVariants.{DoubleCondition}
use Rattle.px_check.specs.Found.{noted}
use Rattle.px_check.specs.Once.{once_data}
use Rattle.px_check.proofs.once.note_repeated.Given as goal

abbrev pub invariant-loop-item : goal.invariant-loop-item
invariant-loop-item l =
    noted l.found
    (repeated is_same_once DoubleCondition (map once_data l.seen.items) (flat_map once_in (map item_data (drop l.item-index l.items))))
    ≡ noted l.initial.found (repeated is_same_once DoubleCondition [] (flat_map once_in (map item_data l.items)))

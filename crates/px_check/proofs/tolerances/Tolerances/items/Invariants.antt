use Rattle.std.proofs.Common.{◌≡◌, map, drop, flat_map}
use Rattle.px_syntax.specs.Block.{item_data}
use Rattle.px_syntax.specs.Tolerances.{item_tolerances}
use Rattle.px_check.specs.Tolerances.{met_all}
use Rattle.px_check.proofs.tolerances.Tolerances.items.Given as goal

abbrev pub invariant-loop-item : goal.invariant-loop-item
invariant-loop-item l =
    met_all l.self (flat_map item_tolerances (map item_data (drop l.item-index l.items)))
    ≡ met_all l.initial.self (flat_map item_tolerances (map item_data l.items))

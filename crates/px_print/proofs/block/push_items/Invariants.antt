use Rattle.std.proofs.Common.{◌≡◌, ◌++◌, map, take, flat_map}
use Rattle.px_syntax.specs.Block.{item_data}
use Rattle.px_print.specs.BlockLayout.{item_text, line}
use Rattle.px_print.proofs.block.push_items.Given as goal

abbrev pub invariant-loop-item : goal.invariant-loop-item
invariant-loop-item l =
    l.out.items
    ≡ l.initial.out.items ++ flat_map (λ item. line l.margin (item_text item)) (map item_data (take l.item-index l.items))

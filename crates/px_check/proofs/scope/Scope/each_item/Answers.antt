use Rattle.std.proofs.Common.{List, map, flat_map, refl, ◌∙◌}
use Rattle.px_syntax.specs.Block.{item_data}
use Rattle.px_syntax.specs.BlockFaults.{item_faults}
use Rattle.px_syntax.specs.declared.block.Item.{Item}
use Rattle.px_check.proofs.Walking.{part_walked, all_walked}
use Rattle.px_check.proofs.scope.Scope.each_item.Goals as goal

pub loop-item-preserved : goal.loop-item-preserved
loop-item-preserved c =
    part_walked (λ (left : List Item). flat_map (item_faults c.args.self.now) (map item_data left))
    (λ (item : Item). item_faults c.args.self.now (item_data item)) (λ _ _. refl) c.args.items.now c.loop-item.item-index c.item-item.result _ _
    c.loop-item-test.true c.item-item.is c.item.ensures
    ∙ c.loop-item.invariant

pub returns : goal.returns
returns c =
    all_walked (λ (left : List Item). flat_map (item_faults c.args.self.now) (map item_data left))
    c.args.items.now c.loop-item.item-index c.loop-item.found refl c.loop-item-test.false
    ∙ c.loop-item.invariant

use Rattle.std.proofs.Common.{◌++◌, ◌∷◌, [], List, map, flat_map, append-nil, ap, ◌∙◌}
use Rattle.std.proofs.lemmas.Grind.{flat_map-append}
use Rattle.std.proofs.lemmas.List.{map-append}
use Rattle.px_syntax.specs.Block.{item_data}
use Rattle.px_syntax.specs.BlockFaults.{visible_in}
use Rattle.px_syntax.specs.declared.block.Item.{Item}
use Rattle.px_check.proofs.Seeing.{more_visible}
use Rattle.px_check.proofs.scope.Scope.declare_items.Goals as goal

pub loop-item-preserved : goal.loop-item-preserved
loop-item-preserved c =
    more_visible (λ (items : List Item). flat_map visible_in (map item_data items)) (λ item. visible_in (item_data item))
    c.loop-item.rest.now c.in-Some.others.now c.in-Some.item.now c.loop-item.self c.declare_item.new.self
    (λ xs x. ap (flat_map visible_in) (map-append item_data xs (x ∷ []))
    ∙ flat_map-append visible_in (map item_data xs) (item_data x ∷ [])
    ∙ ap (λ last. flat_map visible_in (map item_data xs) ++ last) (append-nil (visible_in (item_data x))))
    c.in-Some.ensures.cases.0 c.in_ok-declare_item.ensures
    ∙ c.loop-item.invariant

use Rattle.std.proofs.Common.{◌≡◌, [], ◌∷◌, ◌++◌, length, map, ap, sym, ◌∙◌, subst, arith}
use Rattle.std.specs.List.{range_with_len}
use Rattle.std.proofs.lemmas.List.FromFn.{map-range_with_len_more}
use Rattle.px_flat.specs.Flat.{plan_of}
use Rattle.px_told.specs.Preorder.{IsPreorder}
use Rattle.px_machine.specs.Kept.{place_in}
use Rattle.px_machine.proofs.Places.{in_preorder}
use Rattle.px_machine.proofs.tree.places.Goals as goal

pub loop-node-preserved : goal.loop-node-preserved
loop-node-preserved c =
    c.in_ok-push.ensures.items
    ∙ (λ i. c.loop-node.invariant i ++ record { parent = c.row.ensures.parent i; end = (c.extent.ensures.extent i).end } ∷ [])
    ∙ sym (map-range_with_len_more (place_in (plan_of c.args.flat.now)) 0 c.loop-node.node c.loop-node.node (omega arith))

pub returns-clause-preorder : goal.returns-clause-preorder
returns-clause-preorder c =
    let plan = plan_of c.args.flat.now in
    let done : c.loop-node.node ≡ length plan =
    omega (arith, c.loop-node-test.false, c.loop-node.auto.node-end, c.nodes-node-end.ensures.count) in
    subst IsPreorder (sym (c.loop-node.invariant ∙ ap (λ n. map (place_in plan) (range_with_len 0 n)) done)) (in_preorder c.args.flat.now)

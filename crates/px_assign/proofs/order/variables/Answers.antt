use Rattle.std.proofs.Common.{◌∷◌, ◌++◌, [], sym, ◌∙◌, arith}
use Rattle.std.proofs.lemmas.List.FromFn.{map-range_with_len_more}
use Rattle.px_flat.specs.Flat.{plan_of}
use Rattle.px_assign.specs.Conflicts.{variable_of}
use Rattle.px_assign.proofs.order.variables.Goals as goal

pub loop-node-preserved : goal.loop-node-preserved
loop-node-preserved c =
    let node = c.loop-node.node in
    c.in_ok-push.ensures.items
    ∙ (λ i. c.loop-node.invariant i ++ c.variable_of.ensures i ∷ [])
    ∙ sym (map-range_with_len_more (variable_of (plan_of c.args.flat.now)) 0 node node (omega arith))

use Rattle.std.proofs.Common.{[], fold, sym, ◌∙◌}
use Rattle.std.specs.Borrow.{Bor}
use Rattle.px_core.specs.declared.node.CoreNode.{CoreNode}
use Rattle.px_sem.specs.Tolerances.{tolerances_in_head, with_tolerance}
use Rattle.px_flat.proofs.LookedUp.{one_more, all_had}
use Rattle.px_flat.proofs.Trees.{node_head}
use Rattle.px_flat.proofs.tolerances.tolerances.Goals as goal

pub loop-node-preserved : goal.loop-node-preserved
loop-node-preserved c =
    c.in_ok-add_node.ensures
    ∙ (λ j. fold with_tolerance (c.loop-node.invariant j) (tolerances_in_head (node_head (c.node-item.is j).now)))
    ∙ sym (one_more with_tolerance (λ (node : Bor CoreNode). tolerances_in_head (node_head node.now)) [] c.args.nodes.now
    c.loop-node.node-index c.node-item.result c.loop-node-test.true)

pub returns : goal.returns
returns c = all_had with_tolerance tolerances_in_head [] (λ (node : Bor CoreNode). node_head node.now) c.args.nodes.now
    c.loop-node.node-index _ c.loop-node-test.false c.loop-node.invariant

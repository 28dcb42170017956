use Rattle.std.proofs.Common.{[], fold, sym, ◌∙◌}
use Rattle.std.specs.Borrow.{Bor}
use Rattle.px_core.specs.declared.node.CoreNode.{CoreNode}
use Rattle.px_flat.specs.Lookups.{with_name, lookups_in_head}
use Rattle.px_flat.proofs.LookedUp.{one_more, all_had}
use Rattle.px_flat.proofs.Trees.{node_head}
use Rattle.px_flat.proofs.lookups.lookups.Goals as goal

pub loop-node-preserved : goal.loop-node-preserved
loop-node-preserved c =
    c.in_ok-add_node.ensures
    ∙ (λ j. fold with_name (c.loop-node.invariant j) (lookups_in_head (node_head (c.node-item.is j).now)))
    ∙ sym (one_more with_name (λ (node : Bor CoreNode). lookups_in_head (node_head node.now)) [] c.args.nodes.now
    c.loop-node.node-index c.node-item.result c.loop-node-test.true)

pub returns-clause-names : goal.returns-clause-names
returns-clause-names c = all_had with_name lookups_in_head [] (λ (node : Bor CoreNode). node_head node.now) c.args.nodes.now
    c.loop-node.node-index _ c.loop-node-test.false c.loop-node.invariant

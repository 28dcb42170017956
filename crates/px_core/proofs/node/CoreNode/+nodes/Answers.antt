use Rattle.std.proofs.Common.{sym, ◌∙◌, ap, ◌+◌, map, sum}
use Rattle.px_core.proofs.Trees.{nodes_of, node_count}
use Rattle.px_core.proofs.node.CoreNode.+nodes.Goals as goal

pub loop-child-init : goal.loop-child-init
loop-child-init t c = ap (λ nodes. 1 + sum (map nodes_of nodes)) c.deref-child-items.ensures.value ∙ sym (node_count c.args.self.now)

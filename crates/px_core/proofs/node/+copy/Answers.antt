use Rattle.std.proofs.Common.{◌∙◌, ap, map, rules}
use Rattle.px_core.specs.Plan.{tree_of_node}
use Rattle.px_core.proofs.Trees.{same_node}
use Rattle.px_core.proofs.node.+copy.Goals as goal

pub CoreNode::copy-returns : goal.CoreNode::copy-returns
CoreNode::copy-returns t c =
    same_node _ c.args.self.now (search rules) (c.in_ok-copy_each-2.ensures ∙ ap (map tree_of_node) c.deref-2.ensures.value)

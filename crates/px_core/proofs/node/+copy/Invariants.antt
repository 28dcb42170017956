use Rattle.std.proofs.Common.{◌≡◌, take, map}
use Rattle.px_core.specs.Plan.{tree_of_node}
use Rattle.px_core.proofs.node.+copy.Given as goal

abbrev pub invariant-copy_each-loop-node : goal.invariant-copy_each-loop-node
invariant-copy_each-loop-node l = map tree_of_node l.copies.items ≡ map tree_of_node (take l.node-index l.nodes)

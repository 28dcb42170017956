use Rattle.std.proofs.Common.{◌≡◌, ◌+◌, drop, map, sum}
use Rattle.px_core.proofs.Trees.{nodes_of}
use Rattle.px_core.proofs.node.CoreNode.+nodes.Given as goal

abbrev pub invariant-loop-child : goal.invariant-loop-child
invariant-loop-child l = l.count + sum (map nodes_of (drop l.child-index l.child-items)) ≡ nodes_of l.self

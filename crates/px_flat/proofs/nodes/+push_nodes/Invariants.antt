use Rattle.std.proofs.Common.{◌≡◌, ◌++◌, ◌∷◌, take}
use Rattle.px_core.specs.Plan.{count_of, trees_of, below_it}
use Rattle.px_flat.specs.Laying.{heads_in, heads_of}
use Rattle.px_flat.proofs.Trees.{node_head}
use Rattle.px_flat.proofs.nodes.+push_nodes.Given as goal

abbrev pub decreases-push_nodes : goal.decreases-push_nodes
decreases-push_nodes l = count_of (below_it l.node.now)

abbrev pub invariant-loop-child : goal.invariant-loop-child
invariant-loop-child l = heads_of l.nodes.items
    ≡ heads_of l.fn.nodes.items ++ node_head l.node ∷ heads_in (trees_of (take l.child-index l.child-items))

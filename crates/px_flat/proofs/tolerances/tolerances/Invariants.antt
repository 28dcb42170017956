use Rattle.std.proofs.Common.{◌≡◌, [], fold, take}
use Rattle.std.specs.List.{flat_map}
use Rattle.px_sem.specs.Tolerances.{tolerances_in_head, with_tolerance}
use Rattle.px_flat.proofs.Trees.{node_head}
use Rattle.px_flat.proofs.tolerances.tolerances.Given as goal

abbrev pub invariant-loop-node : goal.invariant-loop-node
invariant-loop-node l = l.tolerances.items
    ≡ fold with_tolerance [] (flat_map (λ node. tolerances_in_head (node_head node.now)) (take l.node-index l.nodes))

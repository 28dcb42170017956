use Rattle.std.proofs.Common.{◌≡◌, [], fold, take}
use Rattle.std.specs.List.{flat_map}
use Rattle.px_flat.specs.Lookups.{with_name, lookups_in_head}
use Rattle.px_flat.proofs.Trees.{node_head}
use Rattle.px_flat.proofs.lookups.lookups.Given as goal

abbrev pub invariant-loop-node : goal.invariant-loop-node
invariant-loop-node l = l.names.keys
    ≡ fold with_name [] (flat_map (λ node. lookups_in_head (node_head node.now)) (take l.node-index l.nodes))

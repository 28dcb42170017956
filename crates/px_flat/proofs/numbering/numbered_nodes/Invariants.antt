use Rattle.px_flat.specs.Names.{plan_in}
use Rattle.px_flat.proofs.InNumbers.{AreNumberedSoFar}
use Rattle.px_flat.proofs.numbering.numbered_nodes.Given as goal

abbrev pub invariant-loop-node : goal.invariant-loop-node
invariant-loop-node l = AreNumberedSoFar (plan_in l.names) l.made.items l.node-index

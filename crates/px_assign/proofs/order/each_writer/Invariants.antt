use Rattle.px_flat.specs.Flat.{plan_of}
use Rattle.px_assign.specs.Ordering.{AreSoFar}
use Rattle.px_assign.proofs.order.each_writer.Given as goal

abbrev pub invariant-loop-node : goal.invariant-loop-node
invariant-loop-node l = AreSoFar (plan_of l.flat) l.writers.items l.node

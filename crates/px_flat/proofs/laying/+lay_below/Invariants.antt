use Rattle.std.proofs.Common.{take}
use Rattle.px_core.specs.Plan.{count_of, below_it}
use Rattle.px_flat.proofs.Trees.{LaidSoFar}
use Rattle.px_flat.proofs.laying.+lay_below.Given as goal

abbrev pub invariant-loop-child : goal.invariant-loop-child
invariant-loop-child l = LaidSoFar l.fn.rows.items l.rows.items l.number (take l.child-index l.child-items)

abbrev pub decreases-lay_below : goal.decreases-lay_below
decreases-lay_below l = count_of (below_it l.node.now)

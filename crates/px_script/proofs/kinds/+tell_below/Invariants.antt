use Rattle.std.proofs.Common.{◌++◌, take}
use Rattle.px_core.specs.Plan.{count_of, trees_of, below_it}
use Rattle.px_script.specs.Telling.{TellKinds, kinds_under}
use Rattle.px_script.proofs.kinds.+tell_below.Given as goal

abbrev pub invariant-loop-child : goal.invariant-loop-child
invariant-loop-child l = TellKinds l.kinds.entries (l.fn.kinds.entries ++ kinds_under l.fn.path (trees_of (take l.child-index l.child-items)))

abbrev pub decreases-tell_below : goal.decreases-tell_below
decreases-tell_below l = count_of (below_it l.node.now)

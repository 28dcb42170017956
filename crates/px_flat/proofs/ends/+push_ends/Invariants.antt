use Rattle.std.proofs.Common.{◌≡◌, ◌+◌, ◌++◌, ◌∷◌, length, take}
use Rattle.px_core.specs.Plan.{count_of, trees_of, below_it}
use Rattle.px_flat.specs.Laying.{ends_from}
use Rattle.px_flat.proofs.ends.+push_ends.Given as goal

abbrev pub decreases-push_ends : goal.decreases-push_ends
decreases-push_ends l = count_of (below_it l.node.now)

abbrev pub invariant-loop-child : goal.invariant-loop-child
invariant-loop-child l = l.ends.items ≡ l.fn.ends.items
    ++ 0 ∷ ends_from (length l.fn.ends.items + 1) (trees_of (take l.child-index l.child-items))

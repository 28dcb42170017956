use Rattle.std.proofs.Common.{◌-◌}
use Rattle.px_micro.proofs.Resting.{IsSeen}
use Rattle.px_micro.proofs.children.children_rest.Given as goal

abbrev pub decreases-children : goal.decreases-children
decreases-children l = l.end - l.child

abbrev pub invariant-children : goal.invariant-children
invariant-children l = IsSeen l.parts l.node l.child

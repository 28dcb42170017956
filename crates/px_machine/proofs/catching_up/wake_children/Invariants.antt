use Rattle.std.proofs.Common.{◌-◌}
use Rattle.px_flat.specs.Flat.{plan_of}
use Rattle.px_machine.proofs.Waking.{HasWokenBefore}
use Rattle.px_machine.proofs.catching_up.wake_children.Given as goal

abbrev pub invariant-children : goal.invariant-children
invariant-children l = HasWokenBefore (plan_of l.flat) l.node l.child l.initial.queue l.queue

abbrev pub decreases-children : goal.decreases-children
decreases-children l = l.end - l.child

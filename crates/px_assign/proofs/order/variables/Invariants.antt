use Rattle.std.proofs.Common.{◌≡◌, map}
use Rattle.std.specs.List.{range_with_len}
use Rattle.px_flat.specs.Flat.{plan_of}
use Rattle.px_assign.specs.Conflicts.{variable_of}
use Rattle.px_assign.proofs.order.variables.Given as goal

abbrev pub invariant-loop-node : goal.invariant-loop-node
invariant-loop-node l = l.variables.items ≡ map (variable_of (plan_of l.flat)) (range_with_len 0 l.node)

use Rattle.std.proofs.Common.{◌≡◌, map}
use Rattle.std.specs.List.{range_with_len}
use Rattle.px_flat.specs.Flat.{plan_of}
use Rattle.px_flat.specs.Row.{parent_number}
use Rattle.px_machine.proofs.tree.parents.Given as goal

abbrev pub invariant-loop-node : goal.invariant-loop-node
invariant-loop-node l = l.parents.items ≡ map (parent_number (plan_of l.flat)) (range_with_len 0 l.node)

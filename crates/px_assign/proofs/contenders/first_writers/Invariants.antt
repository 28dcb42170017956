use Rattle.std.proofs.Common.{ℕ, take}
use Rattle.std.specs.BTreeMap.{get}
use Rattle.std.specs.Ordering.{nat_cmp}
use Rattle.px_flat.specs.Flat.{plan_of}
use Rattle.px_assign.specs.Contending.{IsFirst}
use Rattle.px_assign.proofs.contenders.first_writers.Given as goal

abbrev pub invariant-loop-node : goal.invariant-loop-node
invariant-loop-node l = (variable : ℕ)
    → IsFirst (plan_of l.flat) variable (take l.node-index l.wanting) (get nat_cmp l.first variable)

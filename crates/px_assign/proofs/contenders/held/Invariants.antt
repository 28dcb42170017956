use Rattle.std.proofs.Common.{◌≡◌, ℕ, take}
use Rattle.std.specs.BTreeSet.{contains}
use Rattle.std.specs.List.{list_any}
use Rattle.std.specs.Ordering.{nat_cmp}
use Rattle.px_flat.specs.Flat.{plan_of}
use Rattle.px_assign.specs.Conflicts.{writes}
use Rattle.px_assign.proofs.contenders.held.Given as goal

abbrev pub invariant-loop-node : goal.invariant-loop-node
invariant-loop-node l = (variable : ℕ)
    → contains nat_cmp l.held variable ≡ list_any (writes (plan_of l.flat) variable) (take l.node-index l.holding)

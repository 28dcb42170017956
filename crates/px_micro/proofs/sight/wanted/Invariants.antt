use Rattle.std.proofs.Common.{◌≡◌, take}
use Rattle.std.specs.BTreeMap.{get}
use Rattle.std.specs.Ordering.{nat_cmp}
use Rattle.px_micro.specs.Above.{AreRight}
use Rattle.px_micro.specs.Going.{wanted}
use Rattle.px_parts.specs.Parts.{plan_in, world_in}
use Rattle.px_micro.proofs.sight.wanted.Given as goal

abbrev pub invariant-loop-node : goal.invariant-loop-node
invariant-loop-node l = record {
  known : AreRight (plan_in l.parts) (world_in l.parts) (get nat_cmp l.known);
  wanted : l.wanted.items ≡ wanted (plan_in l.parts) (world_in l.parts) (take l.node-index l.candidates);
}

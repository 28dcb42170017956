use Rattle.std.proofs.Common.{vec_len}
use Rattle.std.specs.BTreeMap.{get}
use Rattle.std.specs.Ordering.{nat_cmp}
use Rattle.px_micro.specs.Above.{LeadsUp, AreRight}
use Rattle.px_parts.specs.Parts.{plan_in, world_in}
use Rattle.px_micro.proofs.asked.asked_of.Given as goal

abbrev pub decreases-descent : goal.decreases-descent
decreases-descent l = vec_len l.chain

abbrev pub invariant-descent : goal.invariant-descent
invariant-descent l = LeadsUp (plan_in l.parts) (world_in l.parts) l.node l.chain.items l.asked
    × AreRight (plan_in l.parts) (world_in l.parts) (get nat_cmp l.known)

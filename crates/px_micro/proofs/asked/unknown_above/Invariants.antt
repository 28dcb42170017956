use Rattle.px_micro.specs.Above.{IsChain}
use Rattle.px_parts.specs.Parts.{plan_in}
use Rattle.px_micro.proofs.asked.unknown_above.Given as goal

abbrev pub decreases-ancestors : goal.decreases-ancestors
decreases-ancestors l = l.last

abbrev pub invariant-ancestors : goal.invariant-ancestors
invariant-ancestors l = IsChain (plan_in l.parts) l.node l.chain.items l.last

use Rattle.px_flat.specs.Flat.{plan_of}
use Rattle.px_cached.specs.Laying.{HasLaid}
use Rattle.px_cached.proofs.laying.Network.of.Given as goal

abbrev pub invariant-loop-number : goal.invariant-loop-number
invariant-loop-number l = HasLaid (plan_of l.flat) l.network.parts.items l.network.above.items l.network.roots.items l.number

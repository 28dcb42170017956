use Rattle.std.proofs.Common.{◌≡◌, take}
use Rattle.px_micro.specs.Going.{wanting}
use Rattle.px_parts.specs.Parts.{plan_in, world_in}
use Rattle.px_micro.proofs.wanting.wanting.Given as goal

abbrev pub invariant-loop-going : goal.invariant-loop-going
invariant-loop-going l =
    l.nodes.items ≡ wanting (plan_in l.parts) (world_in l.parts) (take l.going-index l.wanted)

use Rattle.std.proofs.Common.{◌≡◌, filter}
use Rattle.std.specs.List.{range_with_len}
use Rattle.px_sem.specs.Guards.{is_active}
use Rattle.px_sem.specs.World.{state_at}
use Rattle.px_flat.specs.Row.{site_in}
use Rattle.px_parts.specs.Parts.{plan_in, world_in}
use Rattle.px_micro.proofs.wanting.holding.Given as goal

abbrev pub invariant-loop-node : goal.invariant-loop-node
invariant-loop-node l =
    l.nodes.items
    ≡ filter (λ node. is_active (state_at (world_in l.parts) (site_in (plan_in l.parts) node).path)) (range_with_len 0 l.node)

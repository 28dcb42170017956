use Rattle.std.proofs.Common.{◌≡◌, take}
use Rattle.px_flat.specs.Flat.{plan_of}
use Rattle.px_cached.specs.Firsts.{firsts_of}
use Rattle.px_cached.proofs.firsts.first_cells.Given as goal

abbrev pub invariant-loop-node : goal.invariant-loop-node
invariant-loop-node l = l.firsts.items ≡ firsts_of (take l.node (plan_of l.flat))

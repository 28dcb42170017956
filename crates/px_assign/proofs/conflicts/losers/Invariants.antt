use Rattle.std.proofs.Common.{◌≡◌, take, filter}
use Rattle.px_flat.specs.Flat.{plan_of}
use Rattle.px_assign.specs.Conflicts.{is_loser}
use Rattle.px_assign.proofs.conflicts.losers.Given as goal

abbrev pub invariant-loop-node : goal.invariant-loop-node
invariant-loop-node l =
    l.losers.items ≡ filter (is_loser (plan_of l.flat) l.wanting l.holding) (take l.node-index l.wanting)

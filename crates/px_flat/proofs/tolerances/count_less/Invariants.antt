use Rattle.std.proofs.Common.{◌<◌, take, All}
use Rattle.px_flat.proofs.tolerances.count_less.Given as goal

abbrev pub invariant-loop-at : goal.invariant-loop-at
invariant-loop-at l = All (λ other. other < l.tolerance) (take l.at l.tolerances)

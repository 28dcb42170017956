use Rattle.px_plan_parse.proofs.Depths.{IsWalked}
use Rattle.px_plan_parse.proofs.depth.first_too_deep.Given as goal

abbrev pub invariant-loop-at : goal.invariant-loop-at
invariant-loop-at l = IsWalked l.tokens l.at l.walk

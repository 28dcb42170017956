use Rattle.std.proofs.Common.{length, ap, ◌∙◌}
use Rattle.px_flat.specs.Flat.{plan_of}
use Rattle.px_assign.proofs.Variables.{length-variables}
use Rattle.px_flat_tests.proofs.contest.Contest.of.Goals as goal

pub invariant_of-result : goal.invariant_of-result
invariant_of-result c =
    record { sized = ap length c.in-Ok.ensures.plan.variables ∙ length-variables (plan_of c.in_ok-flat.flat) }

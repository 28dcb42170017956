use Rattle.std.proofs.Common.{arith}
use Rattle.px_parts.specs.Parts.{plan_in}
use Rattle.px_machine.proofs.Places.{variables_long}
use Rattle.px_machine.proofs.looking.look_at.Goals as goal

pub want-requires : goal.want-requires
want-requires c =
    omega (arith, c.requires.node, variables_long (plan_in c.args.parts.now) c.args.kept.now.claims c.requires.plan.claims)

use Rattle.std.proofs.Common.{arith}
use Rattle.std.proofs.lemmas.Grind.{common_steps}
use Rattle.px_plan_parse.proofs.Numbers.{no_number}
use Rattle.px_plan_parse.proofs.number.number_at.Goals as goal

pub returns-in_default-clause-fault : goal.returns-in_default-clause-fault
returns-in_default-clause-fault c =
    no_number c.args.tokens.now c.args.at c.requires (λ value has. grind (arith, common_steps))

pub returns-in_default-2 : goal.returns-in_default-2
returns-in_default-2 c =
    record {
      ok = tt;
      small = tt;
      fault = no_number c.args.tokens.now c.args.at c.requires (λ value has. grind (arith, common_steps));
    }

pub returns-in_default-3-clause-fault : goal.returns-in_default-3-clause-fault
returns-in_default-3-clause-fault c =
    no_number c.args.tokens.now c.args.at c.requires (λ value has. grind (arith, common_steps))

use Rattle.std.proofs.Common.{arith}
use Rattle.std.proofs.lemmas.Grind.{common_steps}
use Rattle.px_expr_parse.proofs.Lookups.{no_tolerance}
use Rattle.px_expr_parse.proofs.lookup.tolerance_at.Goals as goal

pub returns-in_default-clause-fault : goal.returns-in_default-clause-fault
returns-in_default-clause-fault c =
    no_tolerance c.args.tokens.now c.args.at c.requires (λ value has. grind (arith, common_steps))

pub returns-in_default-2-clause-fault : goal.returns-in_default-2-clause-fault
returns-in_default-2-clause-fault c =
    no_tolerance c.args.tokens.now c.args.at c.requires (λ value has. grind (arith, common_steps))

pub returns-in_default-3-clause-fault : goal.returns-in_default-3-clause-fault
returns-in_default-3-clause-fault c =
    no_tolerance c.args.tokens.now c.args.at c.requires (λ value has. grind (arith, common_steps))

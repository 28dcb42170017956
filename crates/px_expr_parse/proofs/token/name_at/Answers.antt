use Rattle.std.proofs.Common.{arith}
use Rattle.std.proofs.lemmas.Grind.{common_steps}
use Rattle.px_expr_parse.proofs.Completions.{begun_here, short_name}
use Rattle.px_expr_parse.proofs.token.name_at.Goals as goal

pub returns-in_default-clause-fault : goal.returns-in_default-clause-fault
returns-in_default-clause-fault c = (omega arith, c.requires, grind (arith, common_steps), begun_here short_name)

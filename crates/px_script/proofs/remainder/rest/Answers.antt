use Rattle.std.proofs.Common.{rules, refl}
use Rattle.px_script.proofs.Remainders.{rest_fit}
use Rattle.px_script.proofs.remainder.rest.Goals as goal

pub returns-clause-fit : goal.returns-clause-fit
returns-clause-fit c = rest_fit c.args.script c.args.history.now (record { threads = c.into.result; names = c.args.script.names }) (search rules) refl

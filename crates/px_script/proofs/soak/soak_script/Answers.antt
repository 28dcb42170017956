use Rattle.std.proofs.Common.{◌≡◌, rules}
use Rattle.px_script.specs.Soak.{soak_threads}
use Rattle.px_script.proofs.Soaks.{script_fit}
use Rattle.px_script.proofs.soak.soak_script.Goals as goal

pub returns-clause-fit : goal.returns-clause-fit
returns-clause-fit c =
    let is : c.into-2.result ≡ soak_threads c.args.count c.args.seed = search rules in
    script_fit (record { threads = c.into-2.result; names = c.new.result }) c.args.count c.args.seed is c.new.ensures c.requires.least c.requires.most

use Rattle.px_output.specs.View.{view}
use Rattle.px_run.proofs.Soaking.{prepared_soaks, not_prepared_soaks}
use Rattle.px_run.proofs.soak.soak.Goals as goal

pub returns-in-Ok-clause-soaks : goal.returns-in-Ok-clause-soaks
returns-in-Ok-clause-soaks g c =
    prepared_soaks g.D.Disk c.args.count c.args.seed c.args.journal.now (view g.H.Host c.args.host.now) (view g.H.Host c.run_prepared.new.host) c.args.disk
    g.S.Stepper c.in-Ok.prepared c.run_prepared.result c.in-Ok.ensures.ok c.run_prepared.ensures.runs

pub returns-in-Err-clause-soaks : goal.returns-in-Err-clause-soaks
returns-in-Err-clause-soaks g c =
    not_prepared_soaks g.D.Disk c.args.count c.args.seed c.args.journal.now (view g.H.Host c.args.host.now) (view g.H.Host c.args.host.now) c.args.disk
    c.in-Err.stop c.requires.unbound c.in-Err.ensures.err

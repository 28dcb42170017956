use Rattle.px_output.specs.View.{view}
use Rattle.px_run.proofs.Preparing.{prepared_runs, not_prepared_runs}
use Rattle.px_run.proofs.run.run.Goals as goal

pub returns-in-Ok-clause-runs : goal.returns-in-Ok-clause-runs
returns-in-Ok-clause-runs g c =
    prepared_runs g.D.Disk c.args.plan.now c.args.script.now c.args.journal.now c.args.limit (view g.H.Host c.args.host.now)
    (view g.H.Host c.prepare.new.host) (view g.H.Host c.run_prepared.new.host) c.args.disk g.S.Stepper c.in-Ok.prepared c.run_prepared.result
    c.prepare.ensures.only c.run_prepared.ensures.keeps c.in-Ok.ensures.ok c.run_prepared.ensures.runs

pub returns-in-Err-clause-runs : goal.returns-in-Err-clause-runs
returns-in-Err-clause-runs g c =
    not_prepared_runs g.D.Disk c.args.plan.now c.args.script.now c.args.journal.now c.args.limit (view g.H.Host c.args.host.now)
    (view g.H.Host c.prepare.new.host) (view g.H.Host c.prepare.new.host) c.args.disk c.in-Err.stop c.prepare.ensures.only c.requires.unbound c.in-Err.ensures.err

use Rattle.px_output.specs.View.{view}
use Rattle.px_run.proofs.Preparing.{stopped_at_plan}
use Rattle.px_run.proofs.run.prepare.Goals as goal

pub returns-in_err-text-clause-err : goal.returns-in_err-text-clause-err
returns-in_err-text-clause-err g c =
    stopped_at_plan (view g.H.Host c.args.host.now) (view g.H.Host c.fetch_source.new.host) c.args.plan.now c.args.script.now
    c.in_err-text.field-0.0 c.from_residual.result c.from_residual.ensures.1 c.in_err-text.ensures.err

pub returns-clause-ok : goal.returns-clause-ok
returns-clause-ok g c =
    c.prepare_plan-prepared.ensures.ok c.args.plan.now (view g.H.Host c.args.host.now) c.in_ok-text.ensures.ok c.in_ok-text.ensures.only

pub returns-clause-err : goal.returns-clause-err
returns-clause-err g c =
    c.prepare_plan-prepared.ensures.err c.args.plan.now (view g.H.Host c.args.host.now) c.in_ok-text.ensures.ok c.in_ok-text.ensures.only

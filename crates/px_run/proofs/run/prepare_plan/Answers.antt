use Rattle.std.proofs.Common.{Err, ap}
use Rattle.px_core.specs.Plan.{tree_of}
use Rattle.px_output.specs.View.{view}
use Rattle.px_run.proofs.Preparing.{stopped_at_script, stopped_at_start, prepared}
use Rattle.px_run.proofs.run.prepare_plan.Goals as goal

pub returns-in_err-script-clause-err : goal.returns-in_err-script-clause-err
returns-in_err-script-clause-err g c = λ name before source only.
    stopped_at_script before (view g.H.Host c.args.host.now) (view g.H.Host c.fetch_script.new.host) name c.args.script.now c.args.text.items
    (tree_of c.args.plan.now) c.in_err-script.field-0.0 c.from_residual.result c.from_residual.ensures.1 source only
    c.in_err-script.ensures.only c.in_err-script.ensures.err

pub returns-in_err-stepper-clause-err : goal.returns-in_err-stepper-clause-err
returns-in_err-stepper-clause-err g c = λ name before source only.
    stopped_at_start before (view g.H.Host c.args.host.now) (view g.H.Host c.fetch_script.new.host) name c.args.script.now c.args.text.items
    (tree_of c.args.plan.now) c.in_ok-script.script c.in_err-stepper.field-0.0 c.from_residual-in_err-stepper.result
    c.from_residual-in_err-stepper.ensures.1 source only c.in_ok-script.ensures.only c.in_ok-script.ensures.ok
    (λ is. c.in_err-stepper.ensures.runaway (ap Err is))

pub returns-clause-ok : goal.returns-clause-ok
returns-clause-ok g c = λ name before source only.
    prepared g.S.Stepper before (view g.H.Host c.args.host.now) (view g.H.Host c.fetch_script.new.host) name c.args.script.now
    (tree_of c.args.plan.now) (record { text = c.args.text; script = c.in_ok-script.script; stepper = c.in_ok-stepper.stepper })
    source only c.in_ok-script.ensures.only c.requires.short c.in_ok-script.ensures.ok c.in_ok-script.ensures.fit
    c.in_ok-stepper.ensures.settled c.in_ok-stepper.ensures.rest

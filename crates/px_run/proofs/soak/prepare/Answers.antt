use Rattle.std.proofs.Common.{Err, ap, ◌∙◌}
use Rattle.px_core.specs.Plan.{tree_of}
use Rattle.px_run.specs.Soak.{soak_lines}
use Rattle.px_run.proofs.FileKinds.{same_script}
use Rattle.px_run.proofs.Soaking.{soak_not_started, soak_prepared}
use Rattle.px_run.proofs.soak.prepare.Goals as goal

pub returns-in_err-stepper-clause-err : goal.returns-in_err-stepper-clause-err
returns-in_err-stepper-clause-err g c =
    soak_not_started (tree_of c.in_ok-plan.plan) c.in_err-stepper.field-0.0 c.from_residual-in_err-stepper.result c.from_residual-in_err-stepper.ensures.1
    c.in_ok-plan.ensures.compiled (λ is. c.in_err-stepper.ensures.runaway (ap Err is))

pub returns-clause-ok : goal.returns-clause-ok
returns-clause-ok g c =
    soak_prepared g.S.Stepper c.args.count c.args.seed (tree_of c.in_ok-plan.plan)
    (record { text = c.in_ok-text.text; script = c.in_ok-script.script; stepper = c.in_ok-stepper.stepper })
    (c.in_ok-text.ensures.items ∙ c.as_bytes.ensures.value) c.in_ok-plan.ensures.compiled
    (same_script c.in_ok-script.script (soak_lines c.args.count c.args.seed) c.in_ok-script.ensures.lines c.in_ok-script.ensures.names) c.in_ok-script.ensures.fit
    c.in_ok-stepper.ensures.settled c.in_ok-stepper.ensures.rest

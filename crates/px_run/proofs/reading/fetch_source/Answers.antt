use Rattle.std.proofs.Common.{refl, sym}
use Rattle.px_output.specs.View.{view}
use Rattle.px_run.specs.Reading.{Content}
use Rattle.px_run.proofs.SeenFiles.{plan_refused}
use Rattle.px_run.proofs.reading.fetch_source.Goals as goal

pub returns-in_err-plan-clause-err : goal.returns-in_err-plan-clause-err
returns-in_err-plan-clause-err g c =
    plan_refused (view g.H.Host c.args.host.now) (view g.H.Host c.fetch_bytes.new.host) c.args.name.now c.in_ok-text.text.items c.in_err-plan.field-0.0
    c.from_residual-in_err-plan.result c.from_residual-in_err-plan.ensures.1 c.in_ok-text.ensures.ok
    (rw (sym c.deref.ensures.value) c.in_err-plan.ensures.fault)

pub returns-clause-ok : goal.returns-clause-ok
returns-clause-ok g c =
    (Content c.in_ok-text.text.items, c.in_ok-text.ensures.ok, (refl, rw (sym c.deref.ensures.value) c.in_ok-plan.ensures.ok))

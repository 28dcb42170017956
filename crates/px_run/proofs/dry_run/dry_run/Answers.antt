use Rattle.px_core.specs.Plan.{Tree, tree_of, sites}
use Rattle.px_output.specs.View.{view}
use Rattle.px_script.specs.declared.script.Script.{Script}
use Rattle.px_run.specs.Course.{Untouched, AfterFile}
use Rattle.px_run.specs.Headline.{DryRunOf}
use Rattle.px_run.specs.Kinds.{plan_file, script_file}
use Rattle.px_run.proofs.Performing.{performs_since, reading_stopped}
use Rattle.px_run.proofs.SeenFiles.{reads_later, after_reading, after_since}
use Rattle.px_run.proofs.dry_run.dry_run.Goals as goal

pub returns-in_err-plan-clause-performs : goal.returns-in_err-plan-clause-performs
returns-in_err-plan-clause-performs g c =
    reading_stopped Tree plan_file (view g.H.Host c.args.host.now) (view g.H.Host c.fetch_plan.new.host) c.args.plan.now Untouched _ c.in_err-plan.field-0.0
    c.from_residual.result c.from_residual.ensures.1 c.in_err-plan.ensures.err c.in_err-plan.ensures.only

pub returns-clause-performs : goal.returns-clause-performs
returns-clause-performs g c =
    let old = view g.H.Host c.args.host.now in
    let mid = view g.H.Host c.fetch_plan.new.host in
    let new = view g.H.Host c.dry_run_plan-ended.new.host in
    let tree = tree_of c.in_ok-plan.plan in
    let script = c.args.script.now in
    let kind = script_file (sites tree) in
    performs_since old mid new (AfterFile kind mid new script Untouched (λ read. DryRunOf (sites tree) read.threads) Untouched)
    (AfterFile plan_file old new c.args.plan.now Untouched (λ tree. AfterFile (script_file (sites tree)) old new script Untouched (λ read. DryRunOf (sites tree) read.threads)) Untouched)
    c.dry_run_plan-ended.result c.in_ok-plan.ensures.only
    (λ due calls. after_reading Tree plan_file old new c.args.plan.now tree Untouched _ Untouched due
    (reads_later Tree plan_file old mid new c.args.plan.now tree c.dry_run_plan-ended.ensures.keeps.read_faults c.in_ok-plan.ensures.ok)
    (after_since Script kind old mid new script Untouched (λ read. DryRunOf (sites tree) read.threads) (λ read. DryRunOf (sites tree) read.threads) Untouched due c.in_ok-plan.ensures.only
    (λ read dry. dry) calls))
    c.dry_run_plan-ended.ensures.performs

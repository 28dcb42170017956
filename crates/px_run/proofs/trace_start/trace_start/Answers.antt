use Rattle.std.proofs.Common.{[], Some, Ok, Err, refl, ap, subst}
use Rattle.px_core.specs.Plan.{Tree, tree_of, sites}
use Rattle.px_run.specs.Course.{Untouched, EndsIn}
use Rattle.px_ending.specs.Ending.{start_ending, log_ending}
use Rattle.px_run.specs.Kinds.{plan_file}
use Rattle.px_output.specs.Printing.{Prints}
use Rattle.px_output.specs.View.{view}
use Rattle.px_sem.specs.Stepper.{State}
use Rattle.px_sem.specs.Text.{text_of}
use Rattle.px_ending.specs.declared.status.End.TheVariants as ends
use Rattle.px_run.proofs.Performing.{reading_stopped, start_stopped_behind, printed_behind, broken_off_behind}
use Rattle.px_run.proofs.Starting.{started_has_run, start_held, nodes_at_rest, start_is, runs_away}
use Rattle.px_run.proofs.trace_start.trace_start.Goals as goal

pub returns-in_err-plan-clause-performs : goal.returns-in_err-plan-clause-performs
returns-in_err-plan-clause-performs g c =
    reading_stopped Tree plan_file (view g.H.Host c.args.host.now) (view g.H.Host c.fetch_plan.new.host) c.args.plan.now Untouched _ c.in_err-plan.field-0.0
    c.from_residual.result c.from_residual.ensures.1 c.in_err-plan.ensures.err c.in_err-plan.ensures.only

pub returns-in_err-stepper-clause-performs : goal.returns-in_err-stepper-clause-performs
returns-in_err-stepper-clause-performs g c =
    let tree = tree_of c.in_ok-plan.plan in
    start_stopped_behind Tree plan_file (view g.H.Host c.args.host.now) (view g.H.Host c.fetch_plan.new.host) c.args.plan.now tree Untouched
    (λ tree. EndsIn Untouched (start_ending tree)) c.in_err-stepper.field-0.0 c.from_residual-in_err-stepper.result c.in_ok-plan.ensures.ok c.in_ok-plan.ensures.only
    c.from_residual-in_err-stepper.ensures.1 (λ is. (refl, ap Some (runs_away tree (c.in_err-stepper.ensures.runaway (ap Err is)))))

pub print_drafted-requires-clause-runs : goal.print_drafted-requires-clause-runs
print_drafted-requires-clause-runs g c =
    started_has_run (sites (tree_of c.in_ok-plan.plan)) (g.S.Stepper.state c.in_ok-stepper.stepper) c.in_ok-stepper.ensures.settled c.in_ok-stepper.ensures.rest

pub print_drafted-requires-clause-holds : goal.print_drafted-requires-clause-holds
print_drafted-requires-clause-holds g c =
    let plan = sites (tree_of c.in_ok-plan.plan) in
    let now : State = g.S.Stepper.state c.in_ok-stepper.stepper in
    start_held plan now.nodes c.new-draft.result c.start_drafted.new.draft (nodes_at_rest plan now c.in_ok-stepper.ensures.rest) c.new-draft.ensures
    c.in_ok-stepper.ensures.keeps

pub returns-in_err-print_drafted-clause-performs : goal.returns-in_err-print_drafted-clause-performs
returns-in_err-print_drafted-clause-performs g c =
    let tree = tree_of c.in_ok-plan.plan in
    let settled = c.in_ok-stepper.ensures.settled in
    broken_off_behind Tree plan_file (view g.H.Host c.args.host.now) (view g.H.Host c.fetch_plan.new.host) (view g.H.Host c.print_drafted.new.host)
    c.args.plan.now tree Untouched (λ tree. EndsIn Untouched (start_ending tree)) Untouched (log_ending (sites tree) []) c.in_err-print_drafted.field-0.0 _ c.in_ok-plan.ensures.ok
    c.in_ok-plan.ensures.only c.in_err-print_drafted.ensures.only (refl, ap Some (start_is tree _ settled.0 settled.1)) c.from_residual-in_err-print_drafted.ensures.1
    (subst (λ plan. Prints {T = Unit} (view g.H.Host c.fetch_plan.new.host) [] (view g.H.Host c.print_drafted.new.host) [] (text_of plan [] []) (Err c.in_err-print_drafted.field-0.0))
    (nodes_at_rest (sites tree) (g.S.Stepper.state c.in_ok-stepper.stepper) c.in_ok-stepper.ensures.rest) (c.in_err-print_drafted.ensures.prints [] refl))

pub returns-clause-performs : goal.returns-clause-performs
returns-clause-performs g c =
    let tree = tree_of c.in_ok-plan.plan in
    let settled = c.in_ok-stepper.ensures.settled in
    printed_behind Tree plan_file (view g.H.Host c.args.host.now) (view g.H.Host c.fetch_plan.new.host) (view g.H.Host c.print_drafted.new.host)
    c.args.plan.now tree Untouched (λ tree. EndsIn Untouched (start_ending tree)) Untouched ends.Done (log_ending (sites tree) []) c.in_ok-plan.ensures.ok c.in_ok-plan.ensures.only
    c.in_ok-print_drafted.ensures.only (refl, ap Some (start_is tree _ settled.0 settled.1)) refl
    (subst (λ plan. Prints {T = Unit} (view g.H.Host c.fetch_plan.new.host) [] (view g.H.Host c.print_drafted.new.host) [] (text_of plan [] []) (Ok tt))
    (nodes_at_rest (sites tree) (g.S.Stepper.state c.in_ok-stepper.stepper) c.in_ok-stepper.ensures.rest) (c.in_ok-print_drafted.ensures.prints [] refl))

use Rattle.std.proofs.Common.{Ok, Err, refl, ap, ◌∙◌}
use Rattle.px_core.specs.Plan.{tree_of, sites}
use Rattle.px_sem.proofs.Logs.{fit_accepted, run_started}
use Rattle.px_sem.specs.Stepper.{State}
use Rattle.px_script.specs.declared.script.Script.{Script}
use Rattle.px_run.specs.Course.{Untouched, AfterFile}
use Rattle.px_ending.specs.Ending.{log_ending}
use Rattle.px_run.specs.Headline.{DryRunOf}
use Rattle.px_run.specs.Kinds.{script_file}
use Rattle.px_output.specs.View.{view}
use Rattle.px_ending.specs.declared.status.End.TheVariants as ends
use Rattle.px_run.proofs.Performing.{reading_stopped, memory_stopped, start_stopped_behind, printed_behind, broken_off_behind}
use Rattle.px_run.proofs.Starting.{has_run_still, holds_still, start_held, nodes_at_rest, posted_all, prints_log}
use Rattle.px_run.proofs.dry_run.dry_run_plan.Goals as goal

pub returns-in_err-fetch_script-clause-performs : goal.returns-in_err-fetch_script-clause-performs
returns-in_err-fetch_script-clause-performs g c =
    reading_stopped Script (script_file (sites (tree_of c.args.plan.now))) (view g.H.Host c.args.host.now) (view g.H.Host c.fetch_script.new.host)
    c.args.script.now Untouched _ c.in_err-fetch_script.field-0.0 c.from_residual.result c.from_residual.ensures.1 c.in_err-fetch_script.ensures.err
    c.in_err-fetch_script.ensures.only

pub returns-in_err-entries-clause-performs : goal.returns-in_err-entries-clause-performs
returns-in_err-entries-clause-performs g c =
    memory_stopped (view g.H.Host c.args.host.now) (view g.H.Host c.fetch_script.new.host)
    (AfterFile (script_file (sites (tree_of c.args.plan.now))) (view g.H.Host c.args.host.now) (view g.H.Host c.fetch_script.new.host) c.args.script.now Untouched
    (λ read. DryRunOf (sites (tree_of c.args.plan.now)) read.threads) Untouched) c.from_residual-in_err-entries.result
    c.from_residual-in_err-entries.ensures.1 AfterFile.no_memory c.in_ok-fetch_script.ensures.only

pub returns-in_err-stepper-clause-performs : goal.returns-in_err-stepper-clause-performs
returns-in_err-stepper-clause-performs g c =
    let tree = tree_of c.args.plan.now in
    start_stopped_behind Script (script_file (sites tree)) (view g.H.Host c.args.host.now) (view g.H.Host c.fetch_script.new.host) c.args.script.now
    c.in_ok-fetch_script.field-0 Untouched (λ read. DryRunOf (sites tree) read.threads) c.in_err-stepper.field-0.0 c.from_residual-in_err-stepper.result
    c.in_ok-fetch_script.ensures.ok c.in_ok-fetch_script.ensures.only c.from_residual-in_err-stepper.ensures.1
    (λ is. DryRunOf.runaway (c.in_err-stepper.ensures.runaway (ap Err is)))

pub returns-in_err-posted-clause-performs : goal.returns-in_err-posted-clause-performs
returns-in_err-posted-clause-performs g c =
    memory_stopped (view g.H.Host c.args.host.now) (view g.H.Host c.fetch_script.new.host)
    (AfterFile (script_file (sites (tree_of c.args.plan.now))) (view g.H.Host c.args.host.now) (view g.H.Host c.fetch_script.new.host) c.args.script.now Untouched
    (λ read. DryRunOf (sites (tree_of c.args.plan.now)) read.threads) Untouched) c.from_residual-in_err-posted.result
    c.from_residual-in_err-posted.ensures.1 AfterFile.no_memory c.in_ok-fetch_script.ensures.only

pub post_each_drafted-requires-clause-started : goal.post_each_drafted-requires-clause-started
post_each_drafted-requires-clause-started g c =
    run_started (sites (tree_of c.args.plan.now)) (g.S.Stepper.state c.in_ok-stepper.stepper) c.in_ok-stepper.ensures.settled c.in_ok-stepper.ensures.rest

pub post_each_drafted-requires-clause-holds : goal.post_each_drafted-requires-clause-holds
post_each_drafted-requires-clause-holds g c =
    let plan = sites (tree_of c.args.plan.now) in
    let now : State = g.S.Stepper.state c.in_ok-stepper.stepper in
    start_held plan now.nodes c.new-draft.result c.start_drafted.new.draft (nodes_at_rest plan now c.in_ok-stepper.ensures.rest) c.new-draft.ensures
    c.in_ok-stepper.ensures.keeps

pub print_drafted-requires-clause-events : goal.print_drafted-requires-clause-events
print_drafted-requires-clause-events g c =
    rw (c.deref.ensures.value, c.in_ok-posted.ensures.history)
    (fit_accepted c.in_ok-posted.posted.log.items (rw c.in_ok-posted.ensures.each c.in_ok-entries.ensures.fit))

pub print_drafted-requires-clause-runs : goal.print_drafted-requires-clause-runs
print_drafted-requires-clause-runs g c =
    has_run_still (g.S.Stepper.state c.in_ok-stepper.stepper).nodes c.deref.result.now c.in_ok-posted.posted.history.items
    (g.S.Stepper.state c.post_each_drafted.new.stepper) c.deref.ensures.value c.in_ok-posted.ensures.runs

pub print_drafted-requires-clause-holds : goal.print_drafted-requires-clause-holds
print_drafted-requires-clause-holds g c =
    let before : State = g.S.Stepper.state c.in_ok-stepper.stepper in
    let now : State = g.S.Stepper.state c.post_each_drafted.new.stepper in
    holds_still before.nodes now.nodes c.deref.result.now c.in_ok-posted.posted.history.items c.post_each_drafted.new.draft
    (nodes_at_rest before.nodes now c.in_ok-posted.ensures.runs.1) c.deref.ensures.value c.in_ok-posted.ensures.holds

pub returns-in_err-print_drafted-clause-performs : goal.returns-in_err-print_drafted-clause-performs
returns-in_err-print_drafted-clause-performs g c =
    let tree = tree_of c.args.plan.now in
    let posted = c.in_ok-posted.posted in
    let mid = view g.H.Host c.fetch_script.new.host in
    let new = view g.H.Host c.print_drafted.new.host in
    let threads = c.in_ok-fetch_script.field-0.threads in
    let due = posted_all tree threads (g.S.Stepper.state c.in_ok-stepper.stepper) posted.log.items
    c.in_ok-entries.entries.items c.in_ok-stepper.ensures.settled c.in_ok-stepper.ensures.rest c.in_ok-entries.ensures.order
    c.in_ok-posted.ensures.each c.in_ok-posted.ensures.legal in
    let nodes = ap (λ (s : State). s.nodes) c.in_ok-posted.ensures.runs.1
    ∙ nodes_at_rest (sites tree) (g.S.Stepper.state c.in_ok-stepper.stepper) c.in_ok-stepper.ensures.rest in
    broken_off_behind Script (script_file (sites tree)) (view g.H.Host c.args.host.now) mid new c.args.script.now c.in_ok-fetch_script.field-0 Untouched
    (λ read. DryRunOf (sites tree) read.threads) Untouched (log_ending (sites tree) posted.log.items) c.in_err-print_drafted.field-0.0 _ c.in_ok-fetch_script.ensures.ok c.in_ok-fetch_script.ensures.only
    c.in_err-print_drafted.ensures.only due c.from_residual-in_err-print_drafted.ensures.1
    (prints_log mid new (g.S.Stepper.state c.post_each_drafted.new.stepper).nodes (sites tree) c.deref.result.now posted.history.items c.deref-2.result.now posted.log.items (Err c.in_err-print_drafted.field-0.0)
    nodes c.deref.ensures.value c.deref-2.ensures.value c.in_ok-posted.ensures.history c.in_err-print_drafted.ensures.prints)

pub returns-clause-performs : goal.returns-clause-performs
returns-clause-performs g c =
    let tree = tree_of c.args.plan.now in
    let posted = c.in_ok-posted.posted in
    let mid = view g.H.Host c.fetch_script.new.host in
    let new = view g.H.Host c.print_drafted.new.host in
    let threads = c.in_ok-fetch_script.field-0.threads in
    let due = posted_all tree threads (g.S.Stepper.state c.in_ok-stepper.stepper) posted.log.items
    c.in_ok-entries.entries.items c.in_ok-stepper.ensures.settled c.in_ok-stepper.ensures.rest c.in_ok-entries.ensures.order
    c.in_ok-posted.ensures.each c.in_ok-posted.ensures.legal in
    let nodes = ap (λ (s : State). s.nodes) c.in_ok-posted.ensures.runs.1
    ∙ nodes_at_rest (sites tree) (g.S.Stepper.state c.in_ok-stepper.stepper) c.in_ok-stepper.ensures.rest in
    printed_behind Script (script_file (sites tree)) (view g.H.Host c.args.host.now) mid new c.args.script.now c.in_ok-fetch_script.field-0 Untouched
    (λ read. DryRunOf (sites tree) read.threads) Untouched ends.Done (log_ending (sites tree) posted.log.items) c.in_ok-fetch_script.ensures.ok c.in_ok-fetch_script.ensures.only c.in_ok-print_drafted.ensures.only due refl
    (prints_log mid new (g.S.Stepper.state c.post_each_drafted.new.stepper).nodes (sites tree) c.deref.result.now posted.history.items c.deref-2.result.now posted.log.items (Ok tt)
    nodes c.deref.ensures.value c.deref-2.ensures.value c.in_ok-posted.ensures.history c.in_ok-print_drafted.ensures.prints)

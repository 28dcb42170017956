use Rattle.std.proofs.Common.{◌++◌, Ok, Err, refl, ap, ◌∙◌}
use Rattle.std.specs.Prelude.{codes, decimal}
use Rattle.px_core.specs.Plan.{Tree}
use Rattle.px_sem.specs.Text.{line}
use Rattle.px_run.specs.Course.{Untouched, EndsIn, AfterFile}
use Rattle.px_ending.specs.Ending.{nodes_ending}
use Rattle.px_run.specs.Headline.{CheckCalls}
use Rattle.px_run.specs.Kinds.{plan_file}
use Rattle.px_output.specs.View.{view}
use Rattle.px_ending.specs.declared.status.End.TheVariants as ends
use Rattle.px_run.proofs.Performing.{reading_stopped, memory_stopped, printed_behind, broken_off_behind}
use Rattle.px_output.proofs.Printed.{text_printed}
use Rattle.px_run.proofs.check.check.Goals as goal

pub returns-in_err-nodes-clause-performs : goal.returns-in_err-nodes-clause-performs
returns-in_err-nodes-clause-performs g c =
    reading_stopped Tree plan_file (view g.H.Host c.args.host.now) (view g.H.Host c.fetch_nodes.new.host) c.args.plan.now Untouched _ c.in_err-nodes.field-0.0
    c.from_residual.result c.from_residual.ensures.1 c.in_err-nodes.ensures.err c.in_err-nodes.ensures.only

pub returns-in_err-text-clause-performs : goal.returns-in_err-text-clause-performs
returns-in_err-text-clause-performs g c =
    memory_stopped (view g.H.Host c.args.host.now) (view g.H.Host c.fetch_nodes.new.host)
    (CheckCalls c.args.plan.now (view g.H.Host c.args.host.now) (view g.H.Host c.fetch_nodes.new.host) Untouched) c.from_residual-in_err-text.result
    c.from_residual-in_err-text.ensures.1 AfterFile.no_memory c.in_ok-nodes.ensures.only

pub returns-in_err-emit_all-clause-performs : goal.returns-in_err-emit_all-clause-performs
returns-in_err-emit_all-clause-performs g c =
    let (tree, reads, is) = c.in_ok-nodes.ensures.ok in
    let mid = view g.H.Host c.fetch_nodes.new.host in
    let new = view g.H.Host c.emit_all.new.host in
    broken_off_behind Tree plan_file (view g.H.Host c.args.host.now) mid new c.args.plan.now tree Untouched (λ tree. EndsIn Untouched (nodes_ending tree))
    Untouched (nodes_ending tree) c.in_err-emit_all.field-0.0 _ reads c.in_ok-nodes.ensures.only c.in_err-emit_all.ensures.only (refl, refl)
    c.from_residual-in_err-emit_all.ensures.1
    (text_printed {T = Unit} mid new c.as_bytes.result.now (nodes_ending tree).text (Err c.in_err-emit_all.field-0.0)
    (c.as_bytes.ensures.value ∙ c.in_ok-text.ensures ∙ ap (λ nodes. line (codes "ok " ++ (decimal nodes ++ codes " nodes"))) is)
    c.in_err-emit_all.ensures.prints)

pub returns-clause-performs : goal.returns-clause-performs
returns-clause-performs g c =
    let (tree, reads, is) = c.in_ok-nodes.ensures.ok in
    let mid = view g.H.Host c.fetch_nodes.new.host in
    let new = view g.H.Host c.emit_all.new.host in
    printed_behind Tree plan_file (view g.H.Host c.args.host.now) mid new c.args.plan.now tree Untouched (λ tree. EndsIn Untouched (nodes_ending tree))
    Untouched ends.Done (nodes_ending tree) reads c.in_ok-nodes.ensures.only c.in_ok-emit_all.ensures.only (refl, refl) refl
    (text_printed {T = Unit} mid new c.as_bytes.result.now (nodes_ending tree).text (Ok tt)
    (c.as_bytes.ensures.value ∙ c.in_ok-text.ensures ∙ ap (λ nodes. line (codes "ok " ++ (decimal nodes ++ codes " nodes"))) is)
    c.in_ok-emit_all.ensures.prints)

use Rattle.std.proofs.Common.{ℕ, List, Ok, Err, refl, ◌∙◌}
use Rattle.px_core.specs.Plan.{Tree}
use Rattle.px_run.specs.Course.{Untouched}
use Rattle.px_run.specs.Reading.{with_text}
use Rattle.px_run.specs.Format.{LaysOut, layout_ending}
use Rattle.px_run.specs.Kinds.{plan_file}
use Rattle.px_output.specs.View.{view}
use Rattle.px_ending.specs.declared.status.End.TheVariants as ends
use Rattle.px_run.proofs.Performing.{reading_stopped, printed_behind, broken_off_behind}
use Rattle.px_run.proofs.Preparing.{stops_with_text}
use Rattle.px_output.proofs.Printed.{text_printed}
use Rattle.px_run.proofs.format.format.Goals as goal

pub returns-in_err-text-clause-performs : goal.returns-in_err-text-clause-performs
returns-in_err-text-clause-performs g c =
    let old = view g.H.Host c.args.host.now in
    let new = view g.H.Host c.fetch_layout.new.host in
    reading_stopped (List ℕ × Tree) (with_text plan_file) old new c.args.plan.now Untouched (λ source. LaysOut source.0) c.in_err-text.field-0.0
    c.from_residual.result c.from_residual.ensures.1
    (stops_with_text plan_file old new c.args.plan.now c.in_err-text.field-0.0 c.in_err-text.ensures.err) c.in_err-text.ensures.only

pub returns-in_err-emit_all-clause-performs : goal.returns-in_err-emit_all-clause-performs
returns-in_err-emit_all-clause-performs g c =
    let (source, tree, reads, spelled, is) = c.in_ok-text.ensures.ok in
    let mid = view g.H.Host c.fetch_layout.new.host in
    let new = view g.H.Host c.emit_all.new.host in
    broken_off_behind (List ℕ × Tree) (with_text plan_file) (view g.H.Host c.args.host.now) mid new c.args.plan.now source Untouched (λ source. LaysOut source.0)
    Untouched (layout_ending tree) c.in_err-emit_all.field-0.0 _ reads c.in_ok-text.ensures.only c.in_err-emit_all.ensures.only (tree, spelled, (refl, refl))
    c.from_residual-in_err-emit_all.ensures.1
    (text_printed {T = Unit} mid new c.deref.result.now (layout_ending tree).text (Err c.in_err-emit_all.field-0.0)
    (c.deref.ensures.value ∙ is) c.in_err-emit_all.ensures.prints)

pub returns-clause-performs : goal.returns-clause-performs
returns-clause-performs g c =
    let (source, tree, reads, spelled, is) = c.in_ok-text.ensures.ok in
    let mid = view g.H.Host c.fetch_layout.new.host in
    let new = view g.H.Host c.emit_all.new.host in
    printed_behind (List ℕ × Tree) (with_text plan_file) (view g.H.Host c.args.host.now) mid new c.args.plan.now source Untouched (λ source. LaysOut source.0)
    Untouched ends.Done (layout_ending tree) reads c.in_ok-text.ensures.only c.in_ok-emit_all.ensures.only (tree, spelled, (refl, refl)) refl
    (text_printed {T = Unit} mid new c.deref.result.now (layout_ending tree).text (Ok tt)
    (c.deref.ensures.value ∙ is) c.in_ok-emit_all.ensures.prints)

use Rattle.std.proofs.Common.{[], ap, ◌∙◌}
use Rattle.px_output.specs.Summary.{summary_lines, summary}
use Rattle.px_output.specs.View.{view}
use Rattle.px_output.proofs.Printed.{text_printed, nothing_printed}
use Rattle.px_output.proofs.summary.print_summary.Goals as goal

pub returns-in_err-text-clause-prints : goal.returns-in_err-text-clause-prints
returns-in_err-text-clause-prints g c = λ before whole.
    nothing_printed (view g.H.Host c.args.host.now) [] [] (summary (g.S.Stepper.state c.args.stepper.now).nodes before c.args.log.now) c.from_residual.result
    c.from_residual.ensures.1

pub returns-clause-prints : goal.returns-clause-prints
returns-clause-prints g c = λ before whole.
    let plan = (g.S.Stepper.state c.args.stepper.now).nodes in
    text_printed {T = Unit} (view g.H.Host c.args.host.now) (view g.H.Host c.emit_all.new.host) c.as_bytes.result.now _ c.emit_all.result
    (c.as_bytes.ensures.value ∙ c.in_ok-text.ensures ∙ ap (λ history. summary_lines plan history c.args.log.now) whole) c.emit_all.ensures.prints

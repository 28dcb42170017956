use Rattle.std.proofs.Common.{◌≡◌, sym, ◌∙◌, subst}
use Rattle.std.specs.Cow.{cow_value}
use Rattle.std.proofs.lemmas.Result.{IfOk-weaker}
use Rattle.px_flat.specs.Flat.{plan_of}
use Rattle.px_flat.specs.NumberedData.{expr_data}
use Rattle.px_eval.specs.Meaning.{Means}
use Rattle.px_eval.proofs.Numbers.{meaning}
use Rattle.px_eval.proofs.values.value_of.Goals as goal

pub returns-clause-meaning : goal.returns-clause-meaning
returns-clause-meaning c =
    let flat = c.args.flat.now in
    let cells = c.args.cells.now.contents.values in
    let reports = c.args.reports.now.reports in
    let expr = expr_data c.args.expr.now in
    IfOk-weaker c.into_owned.result (λ owned. owned ≡ cow_value c.in_ok-lent_value.field-0)
    (Means (plan_of flat) cells reports expr)
    (λ owned is. subst (Means (plan_of flat) cells reports expr) (sym (is ∙ c.in_ok-lent_value.ensures))
    (meaning flat cells reports expr))
    c.into_owned.ensures

use Rattle.std.proofs.Common.{rules, ◌≡◌, List, [], map, take, drop, slice_index_or, ap, sym, ◌∙◌, subst}
use Rattle.std.specs.Cow.{cow_value}
use Rattle.std.proofs.lemmas.Option.{get_or_from_slice_get}
use Rattle.px_value.specs.declared.value.Value.{Value}
use Rattle.px_value.specs.declared.value.Value.TheVariants.{Unknown}
use Rattle.px_core.specs.Plan.{Site}
use Rattle.px_flat.specs.Flat.{plan_of}
use Rattle.px_sem.specs.Expressions.{element, unary_value, binary_value}
use Rattle.px_flat.specs.Lookups.{lookups_of}
use Rattle.px_flat.specs.Numbered.{Numbered, numbered_value, held, reported_of}
use Rattle.px_flat.specs.NumberedData.{expr_data}
use Rattle.px_flat.specs.Within.{IsWithin}
use Rattle.px_flat.proofs.NumberedTerms as made
use Rattle.px_eval.proofs.Numbers.{few_cells, each_within, values_in_turn}
use Rattle.px_eval.proofs.values.+lent_value.Goals as goal
use Rattle.px_eval.proofs.values.+lent_value.Goals.{lent_value-in-Literal}
use Rattle.px_eval.proofs.values.+lent_value.Goals.{lent_value-in-Variable}
use Rattle.px_eval.proofs.values.+lent_value.Goals.{lent_value-in-Element+in_ok-index-in-Element}
use Rattle.px_eval.proofs.values.+lent_value.Goals.{lent_value-in-StateOf}
use Rattle.px_eval.proofs.values.+lent_value.Goals.{lent_value-in-OutcomeOf}
use Rattle.px_eval.proofs.values.+lent_value.Goals.{lent_value-in-FailureOf}
use Rattle.px_eval.proofs.values.+lent_value.Goals.{lent_value-in-HandleOf}
use Rattle.px_eval.proofs.values.+lent_value.Goals.{lent_value-in-Acknowledged}
use Rattle.px_eval.proofs.values.+lent_value.Goals.{lent_value-in-Look+in_ok-args-in-Look+in_ok-looked_up-in-Look}
use Rattle.px_eval.proofs.values.+lent_value.Goals.{lent_value-in-Unary+in_ok-arg-in-Unary}
use Rattle.px_eval.proofs.values.+lent_value.Goals.{lent_value-in-Binary+in_ok-left-in-Binary+in_ok-right-in-Binary+in_ok-binary-in-Binary}

pub lent_value-element-requires-clause-fits : goal.lent_value-element-requires-clause-fits
lent_value-element-requires-clause-fits t c =
    few_cells c.args.flat.now c.in-Element.first c.in-Element.size (expr_data c.in-Element.index.value)
    (subst (IsWithin (plan_of c.args.flat.now))
    (ap expr_data c.in-Element.is ∙ made.element c.in-Element.first c.in-Element.size c.in-Element.index) c.requires.within)

pub lent_value-returns : goal.lent_value-returns
lent_value-returns t c =
    let plan : List Site = plan_of c.args.flat.now in
    let cells : List Value = c.args.cells.now.contents.values in
    let worth : Numbered → Value = numbered_value plan cells c.args.reports.now.reports in
    elim c.match-expr.branch [
      | lent_value-in-Literal w ↦
          ap cow_value w.result-is
          ∙ ap worth (sym (made.literal w.in-Literal.value))
          ∙ ap (λ e. worth (expr_data e)) (sym w.in-Literal.is)
      | lent_value-in-Variable w ↦
          ap cow_value w.result-is
          ∙ sym (get_or_from_slice_get cells w.in-Variable.cell w.get.result.now Unknown w.get.ensures)
          ∙ ap worth (sym (made.variable w.in-Variable.cell))
          ∙ ap (λ e. worth (expr_data e)) (sym w.in-Variable.is)
      | lent_value-in-Element+in_ok-index-in-Element w ↦
          let at : cow_value w.in_ok-index-in-Element.index ≡ worth (expr_data w.in-Element.index.value) = search rules in
          ap cow_value w.result-is ∙ w.element.ensures
          ∙ ap (element (take w.in-Element.size (drop w.in-Element.first cells))) at
          ∙ ap worth (sym (made.element w.in-Element.first w.in-Element.size w.in-Element.index))
          ∙ ap (λ e. worth (expr_data e)) (sym w.in-Element.is)
      | lent_value-in-StateOf w ↦
          ap cow_value w.result-is
          ∙ sym (get_or_from_slice_get cells w.state_cell.result w.get-in-StateOf.result.now Unknown
          w.get-in-StateOf.ensures)
          ∙ ap (held cells) w.state_cell.ensures.cell
          ∙ ap worth (sym (made.state_of w.in-StateOf.node))
          ∙ ap (λ e. worth (expr_data e)) (sym w.in-StateOf.is)
      | lent_value-in-OutcomeOf w ↦
          ap cow_value w.result-is
          ∙ sym (get_or_from_slice_get cells w.outcome_cell.result w.get-in-OutcomeOf.result.now Unknown
          w.get-in-OutcomeOf.ensures)
          ∙ ap (held cells) w.outcome_cell.ensures.cell
          ∙ ap worth (sym (made.outcome_of w.in-OutcomeOf.node))
          ∙ ap (λ e. worth (expr_data e)) (sym w.in-OutcomeOf.is)
      | lent_value-in-FailureOf w ↦
          ap cow_value w.result-is
          ∙ sym (get_or_from_slice_get cells w.failure_cell.result w.get-in-FailureOf.result.now Unknown
          w.get-in-FailureOf.ensures)
          ∙ ap (held cells) w.failure_cell.ensures.cell
          ∙ ap worth (sym (made.failure_of w.in-FailureOf.node))
          ∙ ap (λ e. worth (expr_data e)) (sym w.in-FailureOf.is)
      | lent_value-in-HandleOf w ↦
          ap cow_value w.result-is
          ∙ sym (get_or_from_slice_get cells w.handle_cell.result w.get-in-HandleOf.result.now Unknown
          w.get-in-HandleOf.ensures)
          ∙ ap (held cells) w.handle_cell.ensures.cell
          ∙ ap worth (sym (made.handle_of w.in-HandleOf.node))
          ∙ ap (λ e. worth (expr_data e)) (sym w.in-HandleOf.is)
      | lent_value-in-Acknowledged w ↦
          ap cow_value w.result-is
          ∙ sym (get_or_from_slice_get cells w.acknowledgement_cell.result w.get-in-Acknowledged.result.now Unknown
          w.get-in-Acknowledged.ensures)
          ∙ ap (held cells) w.acknowledgement_cell.ensures.cell
          ∙ ap worth (sym (made.acknowledged w.in-Acknowledged.node))
          ∙ ap (λ e. worth (expr_data e)) (sym w.in-Acknowledged.is)
      | lent_value-in-Look+in_ok-args-in-Look+in_ok-looked_up-in-Look w ↦
          let args : w.in_ok-args-in-Look.args ≡ map worth (map expr_data w.in-Look.args.items) = search rules in
          let found : cow_value w.in_ok-looked_up-in-Look.field-0
          ≡ reported_of c.args.reports.now.reports w.lookup_name.result.now w.in_ok-args-in-Look.args w.in-Look.tolerance = search rules in
          ap cow_value w.result-is ∙ found
          ∙ ap (λ name. reported_of c.args.reports.now.reports name w.in_ok-args-in-Look.args w.in-Look.tolerance) w.lookup_name.ensures
          ∙ ap (λ args. reported_of c.args.reports.now.reports (slice_index_or (lookups_of plan) w.in-Look.lookup []) args w.in-Look.tolerance)
          (args ∙ values_in_turn plan cells c.args.reports.now.reports (map expr_data w.in-Look.args.items))
          ∙ ap worth (sym (made.look w.in-Look.lookup w.in-Look.args w.in-Look.tolerance))
          ∙ ap (λ e. worth (expr_data e)) (sym w.in-Look.is)
      | lent_value-in-Unary+in_ok-arg-in-Unary w ↦
          let inner : cow_value w.in_ok-arg-in-Unary.arg ≡ worth (expr_data w.in-Unary.arg.value) = search rules in
          ap cow_value w.result-is ∙ w.unary.ensures ∙ ap (unary_value w.in-Unary.op) inner
          ∙ ap worth (sym (made.unary w.in-Unary.op w.in-Unary.arg))
          ∙ ap (λ e. worth (expr_data e)) (sym w.in-Unary.is)
      | lent_value-in-Binary+in_ok-left-in-Binary+in_ok-right-in-Binary+in_ok-binary-in-Binary w ↦
          let one : cow_value w.in_ok-left-in-Binary.left ≡ worth (expr_data w.in-Binary.left.value) = search rules in
          let other : cow_value w.in_ok-right-in-Binary.right ≡ worth (expr_data w.in-Binary.right.value) = search rules in
          ap cow_value w.result-is ∙ w.in_ok-binary-in-Binary.ensures
          ∙ (λ i. binary_value w.in-Binary.op (one i) (other i))
          ∙ ap worth (sym (made.binary w.in-Binary.op w.in-Binary.left w.in-Binary.right))
          ∙ ap (λ e. worth (expr_data e)) (sym w.in-Binary.is)
    ]

pub each_value-loop-expr-init : goal.each_value-loop-expr-init
each_value-loop-expr-init t c = (
  c.in_ok-values.ensures.items,
  each_within (plan_of c.args.flat.now) c.args.exprs.now c.requires.within,
)

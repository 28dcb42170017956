use Rattle.px_value.proofs.General.{handed_on}
use Rattle.px_plan_parse.specs.Part.{Anything}
use Rattle.px_plan_parse.proofs.Items.{makes_variable, size_begins}
use Rattle.px_plan_parse.proofs.Parts.{lack_made, of_found, part_made, joins_both, lack_joined, part_joined}
use Rattle.px_expr_parse.proofs.Spans.{local_identifier}
use Rattle.px_plan_parse.proofs.Spans.{local_size}
use Rattle.px_plan_parse.proofs.Shortests.{short_first_value, short_unsized}
use Rattle.px_plan_parse.proofs.Parts.{lack_first, of_missing}
use Rattle.px_syntax.specs.Form.{identifier}
use Rattle.px_plan_parse.proofs.variable.variable.Goals as goal

pub returns-in_err-initial-clause-fault : goal.returns-in_err-initial-clause-fault
returns-in_err-initial-clause-fault c =
    handed_on _ _ _ c.from_residual-in_err-initial.ensures.1 (lack_made (makes_variable c.args.tokens.now c.args.from)
    (lack_joined (joins_both (λ others part from end o ended. tt) (local_identifier _) (of_found Anything c.in_ok-name.ensures.ok))
    (lack_joined (joins_both size_begins (local_size _) c.in_ok-size.ensures.ok) c.in_err-initial.ensures.fault)))

pub returns-clause-ok : goal.returns-clause-ok
returns-clause-ok c =
    rw c.declared.ensures (part_made (makes_variable c.args.tokens.now c.args.from)
    (part_joined (joins_both (λ others part from end o ended. tt) (local_identifier _) (of_found Anything c.in_ok-name.ensures.ok))
    (part_joined (joins_both size_begins (local_size _) c.in_ok-size.ensures.ok) c.in_ok-initial.ensures.ok)))

pub returns-in_err-name-clause-fault : goal.returns-in_err-name-clause-fault
returns-in_err-name-clause-fault c =
    handed_on _ _ _ c.from_residual.ensures.1 (lack_made (makes_variable c.args.tokens.now c.args.from)
    (lack_first (λ others part from end o ended. tt) short_unsized
    (of_missing identifier c.args.tokens.now c.args.from c.in_err-name.field-0.0 Anything c.in_err-name.ensures.fault)))

pub returns-in_err-size-clause-fault : goal.returns-in_err-size-clause-fault
returns-in_err-size-clause-fault c =
    handed_on _ _ _ c.from_residual-in_err-size.ensures.1 (lack_made (makes_variable c.args.tokens.now c.args.from)
    (lack_joined (joins_both (λ others part from end o ended. tt) (local_identifier _) (of_found Anything c.in_ok-name.ensures.ok))
    (lack_first size_begins short_first_value c.in_err-size.ensures.fault)))

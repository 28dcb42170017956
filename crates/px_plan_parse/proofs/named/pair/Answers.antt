use Rattle.std.proofs.Common.{◌+◌}
use Rattle.px_value.proofs.General.{handed_on}
use Rattle.px_plan_parse.specs.Part.{Anything}
use Rattle.px_plan_parse.proofs.Names.{makes_pair}
use Rattle.px_plan_parse.proofs.Parts.{lack_behind, lack_made, of_found, of_read, of_refused, part_behind, part_made, two, joins_both, lack_joined, part_joined}
use Rattle.px_expr_parse.proofs.Spans.{local_identifier}
use Rattle.px_expr_parse.proofs.Completions.{short_expression}
use Rattle.px_plan_parse.proofs.Shortests.{short_paired}
use Rattle.px_plan_parse.proofs.Parts.{lack_first, lack_kind, of_missing}
use Rattle.px_syntax.specs.Form.{identifier}
use Rattle.px_plan_parse.proofs.named.pair.Goals as goal

pub returns-in_err-value-clause-fault : goal.returns-in_err-value-clause-fault
returns-in_err-value-clause-fault c =
    handed_on _ _ _ c.from_residual-in_err-value.ensures.1 (lack_made (makes_pair c.args.tokens.now c.args.from)
    (lack_joined (joins_both (λ others part from end o next. tt) (local_identifier _) (of_found Anything c.in_ok-name.ensures.ok))
    (lack_behind c.in_ok-expect.ensures.ok.1 (of_refused c.args.tokens.now (c.args.from + 1 + 1) c.in_err-value.field-0.0
    (rw (two c.args.from) at c.in_err-value.ensures.refused)))))

pub returns-clause-ok : goal.returns-clause-ok
returns-clause-ok c =
    rw c.pair.ensures (part_made (makes_pair c.args.tokens.now c.args.from)
    (part_joined (joins_both (λ others part from end o next. tt) (local_identifier _) (of_found Anything c.in_ok-name.ensures.ok))
    (part_behind c.in_ok-expect.ensures.ok.1 (of_read (rw (two c.args.from) at c.in_ok-value.ensures.read)))))

pub returns-in_err-name-clause-fault : goal.returns-in_err-name-clause-fault
returns-in_err-name-clause-fault c =
    handed_on _ _ _ c.from_residual.ensures.1 (lack_made (makes_pair c.args.tokens.now c.args.from) (lack_first (λ others part from end o next. tt) short_paired
    (of_missing identifier c.args.tokens.now c.args.from c.in_err-name.field-0.0 Anything c.in_err-name.ensures.fault)))

pub returns-in_err-expect-clause-fault : goal.returns-in_err-expect-clause-fault
returns-in_err-expect-clause-fault c =
    handed_on _ _ _ c.from_residual-in_err-expect.ensures.1 (lack_made (makes_pair c.args.tokens.now c.args.from)
    (lack_joined (joins_both (λ others part from end o next. tt) (local_identifier _) (of_found Anything c.in_ok-name.ensures.ok))
    (lack_kind c.in_ok-name.ensures.ok.within short_expression c.in_err-expect.ensures.fault)))

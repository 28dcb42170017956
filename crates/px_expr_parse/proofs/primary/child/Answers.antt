use Rattle.std.proofs.Common.{◌≡◌, ◌+◌, arith}
use Rattle.px_value.proofs.General.{handed_on}
use Rattle.px_expr_parse.specs.Tail.{attribute, named}
use Rattle.px_expr_parse.proofs.Completions.{short_attribute}
use Rattle.px_expr_parse.proofs.Parts.{ends_both, found_ending, missing_ending, missing_first}
use Rattle.px_expr_parse.proofs.Primaries.{opens_child}
use Rattle.px_expr_parse.proofs.Productions.{read_opened, refuse_opened}
use Rattle.px_expr_parse.proofs.Spans.{local_named}
use Rattle.px_expr_parse.proofs.primary.child.Goals as goal

pub returns-in_err-name-clause-fault : goal.returns-in_err-name-clause-fault
returns-in_err-name-clause-fault c =
    handed_on _ _ _ c.from_residual.ensures.1
    (refuse_opened (opens_child c.args.from) c.requires.begins c.in_err-name.field-0.0
    (missing_first named attribute c.args.tokens.now (c.args.from + 1) c.in_err-name.field-0.0 short_attribute c.in_err-name.ensures.fault))

pub returns-in_err-attribute-clause-fault : goal.returns-in_err-attribute-clause-fault
returns-in_err-attribute-clause-fault c =
    let place : c.args.from + 4 ≡ c.args.from + 1 + 3 = omega arith in
    handed_on _ _ _ c.from_residual-in_err-attribute.ensures.1
    (refuse_opened (opens_child c.args.from) c.requires.begins c.in_err-attribute.field-0.0
    (missing_ending (ends_both named attribute (local_named c.in_ok-name.name) c.in_ok-name.ensures.ok) c.in_err-attribute.field-0.0
    (rw place at c.in_err-attribute.ensures.fault)))

pub returns-clause-ok : goal.returns-clause-ok
returns-clause-ok c =
    let place : c.args.from + 4 ≡ c.args.from + 1 + 3 = omega arith in
    let end : c.args.from + 6 ≡ c.args.from + 1 + 3 + 2 = omega arith in
    rw (c.attribute.ensures, end) (read_opened (opens_child c.args.from) c.requires.begins
    (found_ending (ends_both named attribute (local_named c.in_ok-name.name) c.in_ok-name.ensures.ok) (rw place at c.in_ok-attribute.ensures.ok)))

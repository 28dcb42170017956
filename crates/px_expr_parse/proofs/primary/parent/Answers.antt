use Rattle.std.proofs.Common.{◌≡◌, ◌+◌, arith}
use Rattle.px_value.proofs.General.{handed_on}
use Rattle.px_expr_parse.proofs.Primaries.{opens_parent}
use Rattle.px_expr_parse.proofs.Productions.{read_opened, refuse_opened}
use Rattle.px_expr_parse.proofs.primary.parent.Goals as goal

pub returns-in_err-attribute-clause-fault : goal.returns-in_err-attribute-clause-fault
returns-in_err-attribute-clause-fault c =
    handed_on _ _ _ c.from_residual.ensures.1
    (refuse_opened (opens_parent c.args.from) c.requires.begins c.in_err-attribute.field-0.0 c.in_err-attribute.ensures.fault)

pub returns-clause-ok : goal.returns-clause-ok
returns-clause-ok c =
    let end : c.args.from + 3 ≡ c.args.from + 1 + 2 = omega arith in
    rw (c.attribute.ensures, end) (read_opened (opens_parent c.args.from) c.requires.begins c.in_ok-attribute.ensures.ok)

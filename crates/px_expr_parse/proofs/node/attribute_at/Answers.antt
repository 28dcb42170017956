use Rattle.px_value.proofs.General.{handed_on}
use Rattle.px_expr_parse.proofs.Attributes.{no_dot, no_word}
use Rattle.px_expr_parse.proofs.node.attribute_at.Goals as goal

pub returns-in_err-expect-clause-fault : goal.returns-in_err-expect-clause-fault
returns-in_err-expect-clause-fault c =
    handed_on _ _ _ c.from_residual.ensures.1 (no_dot c.args.tokens.now c.args.at c.in_err-expect.field-0.0 c.requires c.in_err-expect.ensures.fault)

pub returns-in-None-clause-fault : goal.returns-in-None-clause-fault
returns-in-None-clause-fault c =
    no_word c.args.tokens.now c.args.at c.in_ok-expect.ensures.ok.0 c.in_ok-expect.ensures.ok.1 c.in-None.ensures

use Rattle.std.proofs.Common.{sym, ◌∙◌, arith}
use Rattle.px_value.proofs.General.{handed_on}
use Rattle.px_plan_parse.proofs.Blocks.{lack_brace, lack_form, part_brace, part_form}
use Rattle.px_plan_parse.proofs.block.head.Goals as goal

pub returns-in_err-expect-clause-fault : goal.returns-in_err-expect-clause-fault
returns-in_err-expect-clause-fault c =
    handed_on _ _ _ c.from_residual.ensures.1 (lack_form c.args.tokens.now c.args.from c.in-Form.form
    (sym c.start_at.ensures.value ∙ c.in-Form.is) (omega (arith, c.start_at.ensures.inside (λ e. let t = c.in-Form.is in cc))) c.in_err-expect.ensures.fault)

pub returns-in-Form-clause-ok : goal.returns-in-Form-clause-ok
returns-in-Form-clause-ok c =
    part_form c.args.tokens.now c.args.from c.in-Form.form (sym c.start_at.ensures.value ∙ c.in-Form.is)
    c.in_ok-expect.ensures.ok.0 c.in_ok-expect.ensures.ok.1

pub returns-in_err-expect-2-clause-fault : goal.returns-in_err-expect-2-clause-fault
returns-in_err-expect-2-clause-fault c =
    handed_on _ _ _ c.from_residual-in_err-expect-2.ensures.1
    (lack_brace c.args.tokens.now c.args.from (λ form is. c.in_default.not-Form form
    (c.start_at.ensures.value ∙ is)) c.requires c.in_err-expect-2.ensures.fault)

pub returns-clause-ok : goal.returns-clause-ok
returns-clause-ok c =
    part_brace c.args.tokens.now c.args.from (λ form is. c.in_default.not-Form form (c.start_at.ensures.value ∙ is))
    c.in_ok-expect-2.ensures.ok.0 c.in_ok-expect-2.ensures.ok.1

use Rattle.std.proofs.Common.{refl}
use Rattle.std.proofs.lemmas.List.{map_push}
use Rattle.px_value.proofs.General.{handed_on}
use Rattle.std.proofs.lemmas.Bool.{false≢true}
use Rattle.px_syntax.specs.Block.{variable_data}
use Rattle.px_plan_parse.proofs.Commas.{commas_end, commas_lack, commas_lack_close, commas_lack_first, commas_more}
use Rattle.px_plan_parse.proofs.Items.{variables_separate}
use Rattle.px_plan_parse.proofs.variable.variables.Goals as goal

pub returns-in_err-first-clause-fault : goal.returns-in_err-first-clause-fault
returns-in_err-first-clause-fault c =
    handed_on _ _ _ c.from_residual.ensures.1 (commas_lack_first variables_separate c.in_err-first.ensures.fault)

pub returns-in_err-next-clause-fault : goal.returns-in_err-next-clause-fault
returns-in_err-next-clause-fault c =
    handed_on _ _ _ c.from_residual-in_err-next.ensures.1
    (commas_lack variables_separate c.loop-alloc.invariant (c.loop-alloc-test.ensures.answer.0 refl) c.in_err-next.ensures.fault)

pub loop-alloc-preserved : goal.loop-alloc-preserved
loop-alloc-preserved c =
    rw (c.in_ok-push.ensures.items, map_push variable_data c.loop-alloc.variables.items c.in_ok-next.next)
    (commas_more variables_separate c.loop-alloc.invariant (c.loop-alloc-test.ensures.answer.0 refl) c.in_ok-next.ensures.ok)

pub returns-in_err-expect-clause-fault : goal.returns-in_err-expect-clause-fault
returns-in_err-expect-clause-fault c =
    handed_on _ _ _ c.from_residual-in_err-expect.ensures.1
    (commas_lack_close variables_separate c.loop-alloc.invariant (λ has. false≢true (c.loop-alloc-test.ensures.answer.1 has)) c.in_err-expect.ensures.fault)

pub returns-clause-ok : goal.returns-clause-ok
returns-clause-ok c =
    commas_end variables_separate c.loop-alloc.invariant (λ has. false≢true (c.loop-alloc-test.ensures.answer.1 has))
    c.in_ok-expect.ensures.ok.0 c.in_ok-expect.ensures.ok.1

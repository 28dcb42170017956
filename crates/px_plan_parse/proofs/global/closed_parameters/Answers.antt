use Rattle.std.proofs.Common.{refl}
use Rattle.px_value.proofs.General.{handed_on}
use Rattle.std.proofs.lemmas.Bool.{false≢true}
use Rattle.px_plan_parse.proofs.Commas.{commas_end, commas_lack, commas_lack_close, commas_lack_first, commas_more}
use Rattle.px_plan_parse.proofs.Globals.{makes_parameters, no_parameters, parameters_separate}
use Rattle.px_plan_parse.proofs.Parts.{lack_made, part_made}
use Rattle.px_plan_parse.proofs.global.closed_parameters.Goals as goal

pub returns-then-is_sign-clause-ok : goal.returns-then-is_sign-clause-ok
returns-then-is_sign-clause-ok c =
    rw c.new.ensures.items
    (no_parameters c.args.tokens.now c.args.from (c.if-is_sign.ensures.inside refl) (c.if-is_sign.ensures.answer.0 refl))

pub returns-in_err-first-clause-fault : goal.returns-in_err-first-clause-fault
returns-in_err-first-clause-fault c =
    handed_on _ _ _ c.from_residual.ensures.1 (lack_made
    (makes_parameters c.args.tokens.now c.args.from (λ has. false≢true (c.if-is_sign.ensures.answer.1 has)))
    (commas_lack_first parameters_separate c.in_err-first.ensures.fault))

pub returns-in_err-next-clause-fault : goal.returns-in_err-next-clause-fault
returns-in_err-next-clause-fault c =
    handed_on _ _ _ c.from_residual-in_err-next.ensures.1
    (lack_made (makes_parameters c.args.tokens.now c.args.from (λ has. false≢true (c.if-is_sign.ensures.answer.1 has)))
    (commas_lack parameters_separate c.loop-alloc.invariant (c.loop-alloc-test.ensures.answer.0 refl) c.in_err-next.ensures.fault))

pub loop-alloc-preserved : goal.loop-alloc-preserved
loop-alloc-preserved c =
    rw c.in_ok-push.ensures.items
    (commas_more parameters_separate c.loop-alloc.invariant (c.loop-alloc-test.ensures.answer.0 refl) c.in_ok-next.ensures.ok)

pub returns-in_err-expect-clause-fault : goal.returns-in_err-expect-clause-fault
returns-in_err-expect-clause-fault c =
    handed_on _ _ _ c.from_residual-in_err-expect.ensures.1
    (lack_made (makes_parameters c.args.tokens.now c.args.from (λ has. false≢true (c.if-is_sign.ensures.answer.1 has)))
    (commas_lack_close parameters_separate c.loop-alloc.invariant (λ has. false≢true (c.loop-alloc-test.ensures.answer.1 has)) c.in_err-expect.ensures.fault))

pub returns-clause-ok : goal.returns-clause-ok
returns-clause-ok c =
    part_made (makes_parameters c.args.tokens.now c.args.from (λ has. false≢true (c.if-is_sign.ensures.answer.1 has)))
    (commas_end parameters_separate c.loop-alloc.invariant (λ has. false≢true (c.loop-alloc-test.ensures.answer.1 has))
    c.in_ok-expect.ensures.ok.0 c.in_ok-expect.ensures.ok.1)

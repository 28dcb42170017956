use Rattle.std.proofs.Common.{◌+◌}
use Rattle.px_value.proofs.General.{handed_on}
use Rattle.px_expr_parse.specs.Tail.{closed_arguments}
use Rattle.px_plan_parse.specs.Part.{Anything}
use Rattle.px_plan_parse.proofs.Parts.{lack_before, lack_behind, lack_token, of_found, of_missing, part_before, part_behind}
use Rattle.px_expr_parse.proofs.Spans.{local_closed_arguments, local_sign, local_then}
use Rattle.px_lex.specs.declared.sign.Sign.TheVariants as signs
use Rattle.px_expr_parse.proofs.Completions.{short_arguments}
use Rattle.px_plan_parse.proofs.Parts.{lack_kind}
use Rattle.px_plan_parse.proofs.named.called.Goals as goal

pub returns-in_err-args-clause-fault : goal.returns-in_err-args-clause-fault
returns-in_err-args-clause-fault c =
    handed_on _ _ _ c.from_residual-in_err-args.ensures.1 (lack_before {Next = Anything} (λ others place is. tt)
    (lack_behind c.in_ok-expect.ensures.ok.1 (of_missing closed_arguments c.args.tokens.now
    (c.args.from + 1) c.in_err-args.field-0.0 Anything c.in_err-args.ensures.fault)))

pub returns-in_err-expect-2-clause-fault : goal.returns-in_err-expect-2-clause-fault
returns-in_err-expect-2-clause-fault c =
    handed_on _ _ _ c.from_residual-in_err-expect-2.ensures.1
    (lack_token {Next = Anything} (λ others place is. tt) (local_then (local_sign signs.OpenParen) (local_closed_arguments _))
    (part_behind c.in_ok-expect.ensures.ok.1 (of_found Anything c.in_ok-args.ensures.ok)) c.in_err-expect-2.ensures.fault)

pub returns-clause-ok : goal.returns-clause-ok
returns-clause-ok c =
    part_before {Next = Anything} (λ others place is. tt) (local_then (local_sign signs.OpenParen) (local_closed_arguments _)) c.in_ok-expect-2.ensures.ok.0
    (part_behind c.in_ok-expect.ensures.ok.1 (of_found Anything c.in_ok-args.ensures.ok)) c.in_ok-expect-2.ensures.ok.1

pub returns-in_err-expect-clause-fault : goal.returns-in_err-expect-clause-fault
returns-in_err-expect-clause-fault c =
    handed_on _ _ _ c.from_residual.ensures.1 (lack_before {Next = Anything} (λ others place is. tt)
    (lack_kind c.requires.place short_arguments c.in_err-expect.ensures.fault))

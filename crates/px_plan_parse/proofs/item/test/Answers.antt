use Rattle.std.proofs.Common.{◌+◌, refl}
use Rattle.std.proofs.lemmas.Result.{IfErr-weaker, IfOk-weaker}
use Rattle.std.proofs.lemmas.Bool.{false≢true}
use Rattle.px_lex.specs.declared.sign.Sign.TheVariants as signs
use Rattle.px_expr_parse.specs.Tail.{closed}
use Rattle.px_plan_parse.specs.Part.{Anything}
use Rattle.px_plan_parse.proofs.Parts.{lack_behind, lack_made, of_found, of_missing, part_behind, part_made}
use Rattle.px_plan_parse.proofs.Names.{makes_with_colon, makes_without_colon}
use Rattle.px_plan_parse.proofs.Items.{no_colon_test}
use Rattle.px_plan_parse.proofs.item.test.Goals as goal

pub returns-then-is_sign-clause-ok : goal.returns-then-is_sign-clause-ok
returns-then-is_sign-clause-ok c =
    let colon = c.if-is_sign.ensures.answer.0 refl in
    IfOk-weaker c.parse_closed.result _ _ (λ read found.
    part_made (makes_with_colon (closed signs.Semicolon) no_colon_test c.args.tokens.now c.args.from colon) (part_behind colon (of_found Anything found))) c.parse_closed.ensures.ok

pub returns-then-is_sign-clause-fault : goal.returns-then-is_sign-clause-fault
returns-then-is_sign-clause-fault c =
    let colon = c.if-is_sign.ensures.answer.0 refl in
    IfErr-weaker c.parse_closed.result _ _ (λ fault missing.
    lack_made (makes_with_colon (closed signs.Semicolon) no_colon_test c.args.tokens.now c.args.from colon)
    (lack_behind colon (of_missing (closed signs.Semicolon) c.args.tokens.now (c.args.from + 1) fault Anything missing))) c.parse_closed.ensures.fault

pub returns-clause-ok : goal.returns-clause-ok
returns-clause-ok c =
    IfOk-weaker c.parse_closed-2.result _ _ (λ read found.
    part_made (makes_without_colon (closed signs.Semicolon) no_colon_test c.args.tokens.now c.args.from (λ has. false≢true (c.if-is_sign.ensures.answer.1 has))) (of_found Anything found)) c.parse_closed-2.ensures.ok

pub returns-clause-fault : goal.returns-clause-fault
returns-clause-fault c =
    IfErr-weaker c.parse_closed-2.result _ _ (λ fault missing.
    lack_made (makes_without_colon (closed signs.Semicolon) no_colon_test c.args.tokens.now c.args.from (λ has. false≢true (c.if-is_sign.ensures.answer.1 has)))
    (of_missing (closed signs.Semicolon) c.args.tokens.now c.args.from fault Anything missing)) c.parse_closed-2.ensures.fault

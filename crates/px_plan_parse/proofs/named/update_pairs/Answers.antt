use Rattle.std.proofs.Common.{refl}
use Rattle.std.proofs.lemmas.Result.{IfErr-weaker, IfOk-weaker}
use Rattle.std.proofs.lemmas.Bool.{false≢true}
use Rattle.px_plan_parse.specs.Tail.{closed_pairs}
use Rattle.px_plan_parse.proofs.Names.{makes_with_colon, makes_without_colon, no_colon_pairs}
use Rattle.px_plan_parse.proofs.Parts.{lack_behind, lack_made, part_behind, part_made}
use Rattle.px_plan_parse.proofs.named.update_pairs.Goals as goal

pub returns-then-is_sign-clause-ok : goal.returns-then-is_sign-clause-ok
returns-then-is_sign-clause-ok c =
    let colon = c.if-is_sign.ensures.answer.0 refl in
    IfOk-weaker c.closed_pairs.result _ _ (λ read found.
    part_made (makes_with_colon closed_pairs no_colon_pairs c.args.tokens.now c.args.from colon) (part_behind colon found)) c.closed_pairs.ensures.ok

pub returns-then-is_sign-clause-fault : goal.returns-then-is_sign-clause-fault
returns-then-is_sign-clause-fault c =
    let colon = c.if-is_sign.ensures.answer.0 refl in
    IfErr-weaker c.closed_pairs.result _ _ (λ fault missing.
    lack_made (makes_with_colon closed_pairs no_colon_pairs c.args.tokens.now c.args.from colon) (lack_behind colon missing)) c.closed_pairs.ensures.fault

pub returns-clause-ok : goal.returns-clause-ok
returns-clause-ok c =
    IfOk-weaker c.closed_pairs-2.result _ _ (λ read found.
    part_made (makes_without_colon closed_pairs no_colon_pairs c.args.tokens.now c.args.from (λ has. false≢true (c.if-is_sign.ensures.answer.1 has))) found)
    c.closed_pairs-2.ensures.ok

pub returns-clause-fault : goal.returns-clause-fault
returns-clause-fault c =
    IfErr-weaker c.closed_pairs-2.result _ _ (λ fault missing.
    lack_made (makes_without_colon closed_pairs no_colon_pairs c.args.tokens.now c.args.from (λ has. false≢true (c.if-is_sign.ensures.answer.1 has))) missing)
    c.closed_pairs-2.ensures.fault

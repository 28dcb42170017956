use Rattle.std.proofs.Common.{◌≡◌, ◌+◌, refl, subst, arith}
use Rattle.px_value.proofs.General.{handed_on}
use Rattle.std.proofs.lemmas.Bool.{false≢true}
use Rattle.px_syntax.specs.declared.fault.ParseFault.{ParseFault}
use Rattle.px_syntax.specs.Expr.{term_of}
use Rattle.px_expr_parse.specs.Verdict.{IsRefused}
use Rattle.px_plan_parse.specs.Named.{written}
use Rattle.px_plan_parse.specs.Part.{Anything}
use Rattle.px_plan_parse.proofs.Names.{lack_value, later, name_missing, part_value, semicolon_ends, ends_answer}
use Rattle.px_plan_parse.proofs.Parts.{lack_before, lack_made, lack_token, of_read, of_refused, part_before, part_made}
use Rattle.px_plan_parse.proofs.Starts.{name_here, start_name}
use Rattle.px_expr_parse.proofs.Spans.{local_expression}
use Rattle.px_plan_parse.proofs.named.written.Goals as goal

pub returns-in_err-name-clause-fault : goal.returns-in_err-name-clause-fault
returns-in_err-name-clause-fault c =
    let name = name_here c.args.tokens.now c.args.from (c.if-calls.ensures.0 refl).0 in
    handed_on _ _ _ c.from_residual.ensures.1 (name_missing c.args.tokens.now c.args.from name.0 name.1 c.in_err-name.field-0.0 c.in_err-name.ensures.fault written Anything)

pub returns-in_err-args-clause-fault : goal.returns-in_err-args-clause-fault
returns-in_err-args-clause-fault c =
    handed_on _ _ _ c.from_residual-in_err-args.ensures.1
    (lack_made (ends_answer c.args.tokens.now c.args.from c.in_ok-name.name c.in_ok-name.ensures.ok
    (c.if-calls.ensures.0 refl).1) c.in_err-args.ensures.fault)

pub returns-then-calls-clause-ok : goal.returns-then-calls-clause-ok
returns-then-calls-clause-ok c =
    rw c.answer.ensures (part_made (ends_answer c.args.tokens.now c.args.from c.in_ok-name.name c.in_ok-name.ensures.ok
    (c.if-calls.ensures.0 refl).1) c.in_ok-args.ensures.ok)

pub returns-in_err-value-clause-fault : goal.returns-in_err-value-clause-fault
returns-in_err-value-clause-fault c =
    handed_on _ _ _ c.from_residual-in_err-value.ensures.1 (lack_value c.args.tokens.now c.args.from
    (λ name has paren. false≢true (c.if-calls.ensures.1 (start_name c.args.tokens.now c.args.from name has, paren)))
    c.in_err-value.field-0.0
    (λ token is name has. later c.args.tokens.now c.args.from name has token
    (subst (λ (fault : ParseFault). IsRefused 0 c.args.tokens.now c.args.from fault) is c.in_err-value.ensures.refused))
    (lack_before semicolon_ends (of_refused c.args.tokens.now c.args.from c.in_err-value.field-0.0 c.in_err-value.ensures.refused)))

pub returns-in_err-expect-clause-fault : goal.returns-in_err-expect-clause-fault
returns-in_err-expect-clause-fault c =
    let at_end = c.in_err-expect.ensures.fault.0 in
    handed_on _ _ _ c.from_residual-in_err-expect.ensures.1 (lack_value c.args.tokens.now c.args.from
    (λ name has paren. false≢true (c.if-calls.ensures.1 (start_name c.args.tokens.now c.args.from name has, paren)))
    c.in_err-expect.field-0.0
    (λ token is name has. let same : token ≡ c.in_ok-value.end = cc in omega (arith, same, c.in_ok-value.ensures.read.advances))
    (lack_token semicolon_ends (local_expression _) (of_read c.in_ok-value.ensures.read) c.in_err-expect.ensures.fault))

pub returns-clause-ok : goal.returns-clause-ok
returns-clause-ok c =
    part_value c.args.tokens.now c.args.from
    (λ name has paren. false≢true (c.if-calls.ensures.1 (start_name c.args.tokens.now c.args.from name has, paren)))
    (term_of c.in_ok-value.value) (c.in_ok-value.end + 1) (omega (arith, c.in_ok-value.ensures.read.advances))
    (part_before semicolon_ends (local_expression _) c.in_ok-expect.ensures.ok.0 (of_read c.in_ok-value.ensures.read) c.in_ok-expect.ensures.ok.1)

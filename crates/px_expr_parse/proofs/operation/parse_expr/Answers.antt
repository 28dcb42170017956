use Rattle.std.proofs.Common.{refl}
use Rattle.px_value.proofs.General.{handed_on}
use Rattle.std.proofs.lemmas.Bool.{false≢true}
use Rattle.px_expr_parse.specs.Verdict.{GoesOn, index, attribute}
use Rattle.px_expr_parse.proofs.Loops.{is_expression, is_followed, is_no_expression, is_refused}
use Rattle.px_expr_parse.proofs.operation.parse_expr.Goals as goal
use Rattle.px_expr_parse.proofs.operation.parse_expr.Goals.{then-is_sign-via-then-is_sign, then-is_sign-via-else-is_sign+then-is_sign-2}

pub returns-in_err-tree-clause-fault : goal.returns-in_err-tree-clause-fault
returns-in_err-tree-clause-fault c =
    handed_on _ _ _ c.from_residual.ensures.1 (is_no_expression c.args.tokens.now c.args.from c.in_err-tree.field-0.0 c.in_err-tree.ensures.fault)

pub returns-then-is_sign-clause-fault : goal.returns-then-is_sign-clause-fault
returns-then-is_sign-clause-fault c =
    let follows : GoesOn 0 c.args.tokens.now c.in_ok-tree.end =
    elim c.then-is_sign.branch [
      | then-is_sign-via-then-is_sign w ↦ index (w.if-is_sign.ensures.answer.0 refl)
      | then-is_sign-via-else-is_sign+then-is_sign-2 w ↦ attribute (w.if-is_sign-2.ensures.answer.0 refl)
    ] in
    is_followed c.in_ok-tree.ensures.ok follows

pub returns-then-is_sign-clause-refused : goal.returns-then-is_sign-clause-refused
returns-then-is_sign-clause-refused c =
    let follows : GoesOn 0 c.args.tokens.now c.in_ok-tree.end =
    elim c.then-is_sign.branch [
      | then-is_sign-via-then-is_sign w ↦ index (w.if-is_sign.ensures.answer.0 refl)
      | then-is_sign-via-else-is_sign+then-is_sign-2 w ↦ attribute (w.if-is_sign-2.ensures.answer.0 refl)
    ] in
    is_refused c.in_ok-tree.ensures.ok follows

pub returns-clause-ok : goal.returns-clause-ok
returns-clause-ok c =
    is_expression c.in_ok-tree.ensures.ok
    (λ has. false≢true (c.if-is_sign.ensures.answer.1 has)) (λ has. false≢true (c.if-is_sign-2.ensures.answer.1 has))

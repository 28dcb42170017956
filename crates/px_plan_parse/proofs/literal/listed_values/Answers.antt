use Rattle.std.proofs.Common.{refl, sym, ◌∙◌, arith}
use Rattle.px_value.proofs.General.{handed_on}
use Rattle.std.proofs.lemmas.Bool.{false≢true}
use Rattle.px_lex.specs.declared.sign.Sign.TheVariants as signs
use Rattle.px_plan_parse.proofs.Items.{comma_is_no_minus, listed_begins, paren_is_no_minus, paren_no_comma}
use Rattle.px_plan_parse.proofs.Parts.{front_ends, front_lacks, front_more, lack_before, part_before, local_each}
use Rattle.px_plan_parse.proofs.Spans.{local_listed}
use Rattle.px_plan_parse.proofs.literal.listed_values.Goals as goal

pub returns-in_err-value-clause-fault : goal.returns-in_err-value-clause-fault
returns-in_err-value-clause-fault c =
    handed_on _ _ _ c.from_residual.ensures.1 (lack_before (λ others place has. has) (front_lacks c.loop-alloc.invariant
    (λ others part from end o. listed_begins signs.Comma comma_is_no_minus part others from end o) paren_no_comma
    (λ others agree closes. false≢true (c.loop-alloc-test.ensures.answer.1 (sym (agree c.loop-alloc.at (omega arith)) ∙ closes)))
    local_listed c.in_err-value.ensures.fault))

pub loop-alloc-preserved : goal.loop-alloc-preserved
loop-alloc-preserved c =
    rw c.in_ok-push.ensures.items
    (front_more c.loop-alloc.invariant
    (λ others part from end o. listed_begins signs.Comma comma_is_no_minus part others from end o) paren_no_comma
    (λ others agree closes. false≢true (c.loop-alloc-test.ensures.answer.1 (sym (agree c.loop-alloc.at (omega arith)) ∙ closes)))
    c.in_ok-value.ensures.ok)

pub returns-clause-ok : goal.returns-clause-ok
returns-clause-ok c =
    let paren = c.loop-alloc-test.ensures.answer.0 refl in
    part_before (λ others place has. has) (local_each local_listed _) (c.loop-alloc-test.ensures.inside refl)
    (front_ends c.loop-alloc.invariant (λ others agree part end o.
    listed_begins signs.CloseParen paren_is_no_minus part others c.loop-alloc.at end o (agree c.loop-alloc.at (omega arith) ∙ paren)))
    paren

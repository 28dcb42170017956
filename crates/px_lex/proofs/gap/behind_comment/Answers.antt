use Rattle.std.proofs.Common.{◌≡◌, sym, refl, Some, None}
use Rattle.px_lex.specs.Gap.{after_close}
use Rattle.px_lex.specs.Fault.{IsFaulty}
use Rattle.px_lex.proofs.Gaps.{behind_opening, comment_cut, comment_begins}
use Rattle.px_lex.proofs.gap.behind_comment.Goals as goal

pub overflow_sub-text : goal.overflow_sub-text
overflow_sub-text c =
    let closed : after_close c.requires.0 ≡ Some c.in-Some.rest.now = sym (rw (c.as_bytes.ensures.value, behind_opening c.args.text.now c.requires.0 c.requires.1) at c.in-Some.ensures) in
    (comment_cut c.args.text.now c.requires.0 c.in-Some.rest.now c.requires.1 closed c.utf8.text).0

pub range_from-requires : goal.range_from-requires
range_from-requires c = λ _.
    let closed : after_close c.requires.0 ≡ Some c.in-Some.rest.now = sym (rw (c.as_bytes.ensures.value, behind_opening c.args.text.now c.requires.0 c.requires.1) at c.in-Some.ensures) in
    (comment_cut c.args.text.now c.requires.0 c.in-Some.rest.now c.requires.1 closed c.utf8.text).1

pub returns-in-Some-clause-ok : goal.returns-in-Some-clause-ok
returns-in-Some-clause-ok c =
    let closed : after_close c.requires.0 ≡ Some c.in-Some.rest.now = sym (rw (c.as_bytes.ensures.value, behind_opening c.args.text.now c.requires.0 c.requires.1) at c.in-Some.ensures) in
    comment_begins c.args.text.now c.requires.0 c.in-Some.rest.now c.range_from.result.now c.requires.1 closed c.range_from.ensures.value

pub returns-in-None-clause-fault : goal.returns-in-None-clause-fault
returns-in-None-clause-fault c =
    let unclosed : after_close c.requires.0 ≡ None = sym (rw (c.as_bytes.ensures.value, behind_opening c.args.text.now c.requires.0 c.requires.1) at c.in-None.ensures) in
    (refl, IsFaulty.comment c.requires.0 refl c.requires.1 unclosed)

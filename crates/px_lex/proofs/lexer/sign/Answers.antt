use Rattle.std.proofs.Common.{◌≡◌, refl, sym, Some, None, take}
use Rattle.px_lex.specs.Sign.{sign_of}
use Rattle.px_lex.proofs.Signs.{some_byte, two_cut, two_begins, one_cut, one_begins, none_begins}
use Rattle.px_lex.proofs.lexer.sign.Goals as goal

pub range_from-requires : goal.range_from-requires
range_from-requires c = λ _. two_cut c.args.text.now c.in-Some.sign (rw c.as_bytes-bytes.ensures.value at c.in-Some.ensures.long) (rw c.as_bytes-bytes.ensures.value at c.in-Some.ensures.some) c.utf8.text

pub returns-in-Some-clause-ok : goal.returns-in-Some-clause-ok
returns-in-Some-clause-ok c = rw c.range_from.ensures.value (two_begins c.args.text.now c.in-Some.sign (rw c.as_bytes-bytes.ensures.value at c.in-Some.ensures.long) (rw c.as_bytes-bytes.ensures.value at c.in-Some.ensures.some))

pub range_from-requires-in-Some-sign_of : goal.range_from-requires-in-Some-sign_of
range_from-requires-in-Some-sign_of c = λ _.
    let found : sign_of (take 1 c.args.text.now) ≡ Some c.in-Some-sign_of.sign = sym (rw c.as_bytes-bytes.ensures.value at c.in-Some-sign_of.ensures) in
    one_cut c.args.text.now c.in-Some-sign_of.sign (some_byte c.args.text.now c.requires.other) found c.utf8.text

pub returns-in-Some-sign_of-clause-ok : goal.returns-in-Some-sign_of-clause-ok
returns-in-Some-sign_of-clause-ok c =
    let found : sign_of (take 1 c.args.text.now) ≡ Some c.in-Some-sign_of.sign = sym (rw c.as_bytes-bytes.ensures.value at c.in-Some-sign_of.ensures) in
    rw c.range_from-in-Some-sign_of.ensures.value (one_begins c.args.text.now c.in-Some-sign_of.sign (some_byte c.args.text.now c.requires.other) (rw c.as_bytes-bytes.ensures.value at c.in_default.ensures.none) c.requires.no_comment found)

pub returns-in-None-clause-fault : goal.returns-in-None-clause-fault
returns-in-None-clause-fault c =
    let none : sign_of (take 1 c.args.text.now) ≡ None = sym (rw c.as_bytes-bytes.ensures.value at c.in-None.ensures) in
    (refl, none_begins c.args.text.now c.requires.other (rw c.as_bytes-bytes.ensures.value at c.in_default.ensures.none) none)

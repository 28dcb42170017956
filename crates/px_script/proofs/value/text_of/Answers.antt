use Rattle.std.proofs.Common.{rules, refl}
use Rattle.px_script.proofs.Strings.{lexed, unlexed, unended}
use Rattle.px_script.proofs.value.text_of.Goals as goal

pub returns-then-not-ends_with_its_quote : goal.returns-then-not-ends_with_its_quote
returns-then-not-ends_with_its_quote c =
    unended c.args.spelling.now (λ content rest is.
    c.if-not-ends_with_its_quote.ensures.closes content rest (rw c.as_bytes.ensures.value is))

pub returns-in-Ok : goal.returns-in-Ok
returns-in-Ok c =
    lexed c.args.spelling.now c.in-Ok.tokens.items c.first_text.result
    (rw c.as_bytes.ensures.value at (c.if-not-ends_with_its_quote.ensures.opens refl)) c.in-Ok.ensures.ok
    (λ content rest is. (c.if-not-ends_with_its_quote.ensures.closes content rest (rw c.as_bytes.ensures.value is)).0 refl)
    (record { first = c.first_text.ensures.first; plain = λ value is. rw is at c.first_text.ensures.plain })

pub returns-in-Err : goal.returns-in-Err
returns-in-Err c =
    unlexed c.args.spelling.now c.in-Err.field-0
    (rw c.as_bytes.ensures.value at (c.if-not-ends_with_its_quote.ensures.opens refl)) c.in-Err.ensures.fault (search rules)
    (λ content rest is. (c.if-not-ends_with_its_quote.ensures.closes content rest (rw c.as_bytes.ensures.value is)).0 refl)

use Rattle.std.proofs.Common.{ap, Err, refl, sym}
use Rattle.std.specs.String.{string_bytes}
use Rattle.std.proofs.lemmas.Bool.{leb-true}
use Rattle.px_lex.proofs.StringFronts.{quote_cut, string_begins, long_content}
use Rattle.px_lex.proofs.string.string.Goals as goal

pub range_from-requires : goal.range_from-requires
range_from-requires c = λ _. quote_cut c.args.text.now c.requires c.utf8.text

pub returns-in-Ok-clause-ok : goal.returns-in-Ok-clause-ok
returns-in-Ok-clause-ok c =
    string_begins c.args.text.now c.in-Ok.content c.in-Some.rest.now c.requires
    (rw (c.in-Ok.ensures.ok.0, c.as_str.ensures.value) (sym (rw (c.in-Some.is, c.range_from.ensures.value) at c.in_ok-content.ensures)))
    (rw c.in-Ok.ensures.ok.0 (leb-true _ _ c.in-Ok.ensures.ok.1))

pub returns-in-Err-TooLong-clause-fault : goal.returns-in-Err-TooLong-clause-fault
returns-in-Err-TooLong-clause-fault c = (
  refl,
  long_content c.args.text.now (string_bytes c.in-Some.content) c.in-Some.rest.now c.requires
      (sym (rw (c.in-Some.is, c.range_from.ensures.value) at c.in_ok-content.ensures))
      (rw c.as_str.ensures.value at (c.in-Err-TooLong.ensures.too_long (ap (λ fault. Err fault) c.in-Err-TooLong.field-0-is))),
)

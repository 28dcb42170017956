use Rattle.std.specs.Prelude.{nat_le, length}
use Rattle.std.specs.Str.{is_utf8}
use Rattle.std.proofs.lemmas.Bool.{and_from}
use Rattle.std.proofs.lemmas.Str.{is_utf8-from_IsUtf8}
use Rattle.px_script.proofs.value.text_value.Goals as goal

pub returns-clause-plain : goal.returns-clause-plain
returns-clause-plain c =
    and_from (is_utf8 c.args.text) (nat_le (length c.args.text) 1024)
    (is_utf8-from_IsUtf8 c.args.text (rw c.as_str-length.ensures.value at c.as_str-length.utf8)) c.as_str-length.ensures.short

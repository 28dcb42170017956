use Rattle.std.proofs.Common.{◌≡◌}
use Rattle.std.specs.Str.Iter.{chars_rest}
use Rattle.std.specs.String.{string_bytes}
use Rattle.px_lex.specs.String.{string_from}
use Rattle.px_lex.proofs.Strings.{with_bytes, read_from}
use Rattle.px_lex.proofs.string.string_from.Given as goal

abbrev pub invariant-loop-c : goal.invariant-loop-c
invariant-loop-c l = record {
  can : (goal.iterator-loop-c).can_next l.chars;
  finite : (goal.iterator-loop-c).is_finite l.chars;
  read : string_from l.fn.text ≡ with_bytes (string_bytes l.content) (read_from l.escape (chars_rest l.chars));
}

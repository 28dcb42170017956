-- Where a text may be cut: behind bytes of ASCII.
use Rattle.std.proofs.Common.{◌≡◌, ℕ, Bool, true, List, ◌++◌, length, take, refl, sym, ap, ◌∙◌, subst, arith, length-append}
use Rattle.std.specs.Char.{is_ascii}
use Rattle.std.specs.List.{list_all, prefix_len}
use Rattle.std.specs.Str.{IsUtf8, IsCharBoundary}
use Rattle.std.proofs.lemmas.List.Sums.{prefix_len-le-length}
use Rattle.std.proofs.lemmas.Str.{IsCharBoundary-from_take}
use Rattle.std.proofs.Math.Seq.{take-append_seam}
use Rattle.px_value.proofs.Ascii.{ascii_text, list_all-weaker}
use Rattle.px_lex.proofs.Spans.{taken_pass}

pub cut_behind : (text front rest : List ℕ) → text ≡ front ++ rest → list_all is_ascii front ≡ true → IsUtf8 text → IsCharBoundary text (length front)
cut_behind text front rest e h u =
    IsCharBoundary-from_take text (length front) u (omega (arith, ap length e, length-append front rest))
    (subst IsUtf8 (sym (ap (take (length front)) e ∙ take-append_seam front rest)) (ascii_text front h))

-- behind the bytes at the front that pass a test of ASCII
pub cut_front : (p : ℕ → Bool) → ((c : ℕ) → p c ≡ true → is_ascii c ≡ true) → (text : List ℕ) → IsUtf8 text → IsCharBoundary text (prefix_len p text)
cut_front p each text u =
    let front = take (prefix_len p text) text in
    IsCharBoundary-from_take text (prefix_len p text) u (prefix_len-le-length p text)
    (ascii_text front (list_all-weaker p is_ascii each front (taken_pass p text front refl)))

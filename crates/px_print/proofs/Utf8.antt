-- What stays UTF-8: what a string of a UTF-8 text holds, and how that is spelled.
use Rattle.std.proofs.Common.{◌≡◌, ℕ, ◌+◌, ◌<◌, ◌≤◌, true, List, [], ◌∷◌, ◌++◌, length, get_or, Option, Some, None, refl, sym, ap, ◌∙◌, subst, arith, inl, inr, length-append, append-nil}
use Rattle.std.specs.Prelude.{codes, suc}
use Rattle.std.specs.List.{flat_map}
use Rattle.std.specs.Str.{IsUtf8}
use Rattle.std.proofs.Math.Seq.{drop-append-add, get_or-append_seam}
use Rattle.std.proofs.lemmas.Bool.{and_parts, cases_eq, cases_lt, ne_eqb}
use Rattle.std.proofs.lemmas.Bool.Decides.{nat_tests}
use Rattle.std.proofs.lemmas.Grind.{flat_map-append}
use Rattle.std.proofs.lemmas.Option.{none-some}
use Rattle.std.proofs.lemmas.Str.{IsUtf8-append, IsUtf8-drop, IsUtf8-encode, IsUtf8-nil, IsCharBoundary-after_ascii, encode_ascii}
use lib.Utf8.{scalar, scalars, encode, encodes, low_scalar}
use Rattle.px_value.specs.Text.{unescaped, escape_letter, escaped_as, escaped, quoted}
use Rattle.px_lex.specs.String.{string_from, escape_from}
use Rattle.px_lex.proofs.StringFronts.{content_of, before}
use Rattle.px_lex.proofs.Strings.{AreHigh, high_char, with_bytes, plain_char, unescaped_char, unescaped_small, the_quote, a_line_end}

pub ascii_then : (b : ℕ) (bytes : List ℕ) → b < 128 → IsUtf8 bytes → IsUtf8 (b ∷ bytes)
ascii_then b bytes small u =
    IsUtf8-append (b ∷ []) bytes (subst IsUtf8 (encode_ascii b small) (IsUtf8-encode b (low_scalar b (omega arith)))) u

-- what stands behind a byte of ASCII
pub behind_byte : (front : List ℕ) (b : ℕ) (rest : List ℕ) → b < 128 → IsUtf8 (front ++ (b ∷ rest)) → IsUtf8 rest
behind_byte front b rest small u =
    let text = front ++ (b ∷ rest) in
    let within : length front < length text = omega (arith, length-append front (b ∷ rest)) in
    let there : get_or text (length front) 0 < 128 = rw (get_or-append_seam front b rest 0) small in
    subst IsUtf8 (drop-append-add front (b ∷ rest) 1)
    (IsUtf8-drop text (length front + 1) u (IsCharBoundary-after_ascii text (length front) u within there))

-- ---- what a string holds

-- bytes before what is read of a string are the first of it
first_of : (bytes : List ℕ) (read : Option (List ℕ × List ℕ)) (content rest : List ℕ) → with_bytes bytes read ≡ Some (content, rest)
    → (less : List ℕ) × (read ≡ Some (less, rest)) × (content ≡ bytes ++ less)
first_of [] read content rest h = (content, h, refl)
first_of (b ∷ bytes) read content rest h =
    let one = before (Some b) (with_bytes bytes read) content rest h in
    let same : one.first ≡ b = cc in
    let more = first_of bytes read one.less rest one.read_is in
    (more.0, more.1, one.content_is ∙ (λ i. same i ∷ more.2 i))

mutual
  content_from : (cs content rest : List ℕ) → scalars cs ≡ true → string_from (encodes cs) ≡ Some (content, rest) → IsUtf8 content
  content_from [] content rest ok h = cc
  content_from (c ∷ cs) content rest ok h =
      let parts = and_parts (scalar c) (scalars cs) ok in
      let text = encodes (c ∷ cs) in
      elim (cases_eq c 34) [
        | inl quote ↦ subst IsUtf8 (ap content_of (sym (the_quote (string_from text) [] text (encodes cs) c refl refl quote) ∙ h)) IsUtf8-nil
        | inr no_quote ↦ elim (cases_eq c 92) [
          | inl backslash ↦ escaped_from cs content rest parts.1 (rw (backslash, encode_ascii 92 (omega arith)) at h)
          | inr no_backslash ↦ elim (cases_eq c 10) [
            | inl feed ↦ absurd (none-some (content, rest) (sym (a_line_end (string_from text) [] text (encodes cs) c refl refl (inl feed)) ∙ h))
            | inr no_feed ↦ elim (cases_eq c 13) [
              | inl return ↦ absurd (none-some (content, rest) (sym (a_line_end (string_from text) [] text (encodes cs) c refl refl (inr return)) ∙ h))
              | inr no_return ↦
                  let plain = plain_char c (encodes cs) no_quote no_backslash no_feed no_return in
                  let more = first_of (encode c) (string_from (encodes cs)) content rest (sym plain ∙ h) in
                  subst IsUtf8 (sym more.2)
                  (IsUtf8-append (encode c) more.0 (IsUtf8-encode c parts.0) (content_from cs more.0 rest parts.1 more.1))
            ]
          ]
        ]
      ]

  escaped_from : (cs content rest : List ℕ) → scalars cs ≡ true → escape_from (encodes cs) ≡ Some (content, rest) → IsUtf8 content
  escaped_from [] content rest ok h = cc
  escaped_from (c ∷ cs) content rest ok h =
      let one = before (unescaped c) (string_from (encodes cs)) content rest (sym (unescaped_char c (encodes cs)) ∙ h) in
      subst IsUtf8 (sym one.content_is) (ascii_then one.first one.less (unescaped_small c one.first one.byte_is)
      (content_from cs one.less rest (and_parts (scalar c) (scalars cs) ok).1 one.read_is))

-- a string that is read from here
pub content_text : (bytes content rest : List ℕ) → IsUtf8 bytes → string_from bytes ≡ Some (content, rest) → IsUtf8 content
content_text bytes content rest u h = content_from u.0 content rest u.1.0 (ap string_from u.1.1 ∙ h)

-- ---- how it is spelled

letter_small : (b letter : ℕ) → escape_letter b ≡ Some letter → letter < 128
letter_small b letter h = grind (arith, nat_tests)

escaped_text : (b : ℕ) → b < 128 → IsUtf8 (escaped b)
escaped_text b small = of_letter (escape_letter b) (letter_small b)
  where
    of_letter : (letter : Option ℕ) → ((l : ℕ) → letter ≡ Some l → l < 128) → IsUtf8 (escaped_as b letter)
    of_letter None each = ascii_then b [] small IsUtf8-nil
    of_letter (Some l) each = ascii_then 92 (l ∷ []) (omega arith) (ascii_then l [] (each l refl) IsUtf8-nil)

high_byte : (b : ℕ) → 128 ≤ b → escaped b ≡ b ∷ []
high_byte b high =
    rw (ne_eqb b 34 (λ e. omega arith), ne_eqb b 92 (λ e. omega arith), ne_eqb b 10 (λ e. omega arith), ne_eqb b 9 (λ e. omega arith))

high_bytes : (bytes : List ℕ) → AreHigh bytes → flat_map escaped bytes ≡ bytes
high_bytes [] each = refl
high_bytes (b ∷ bytes) each = λ i.
    high_byte b (each 0 (omega arith)) i ++ high_bytes bytes (λ k below. each (suc k) (omega arith)) i

char_text : (c : ℕ) → scalar c ≡ true → IsUtf8 (flat_map escaped (encode c))
char_text c ok = elim (cases_lt c 128) [
  | inl small ↦ rw (encode_ascii c small, append-nil) (escaped_text c small)
  | inr big ↦ subst IsUtf8 (sym (high_bytes (encode c) (high_char c big))) (IsUtf8-encode c ok)
]

chars_text : (cs : List ℕ) → scalars cs ≡ true → IsUtf8 (flat_map escaped (encodes cs))
chars_text [] ok = IsUtf8-nil
chars_text (c ∷ cs) ok =
    let parts = and_parts (scalar c) (scalars cs) ok in
    subst IsUtf8 (sym (flat_map-append escaped (encode c) (encodes cs)))
    (IsUtf8-append (flat_map escaped (encode c)) (flat_map escaped (encodes cs)) (char_text c parts.0) (chars_text cs parts.1))

pub quoted_text : (content : List ℕ) → IsUtf8 content → IsUtf8 (quoted content)
quoted_text content u =
    ascii_then 34 (flat_map escaped content ++ codes "\"") (omega arith)
    (IsUtf8-append (flat_map escaped content) (codes "\"") (subst (λ bytes. IsUtf8 (flat_map escaped bytes)) u.1.1 (chars_text u.0 u.1.0))
    (ascii_then 34 [] (omega arith) IsUtf8-nil))

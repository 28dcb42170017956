-- How the reading of a string goes on over one more character.
use Rattle.std.proofs.Common.{◌≡◌, ◌≢◌, ℕ, suc, ◌<◌, ◌≤◌, Bool, true, false, List, [], ◌∷◌, ◌++◌, get_or, Option, Some, None, refl, sym, ap, ◌∙◌, arith, ◌⊎◌, inl, inr, length, append-nil}
use Rattle.std.proofs.lemmas.Bool.{cases_lt, ne_eqb}
use Rattle.std.proofs.lemmas.Str.{encode_ascii, inside_one, length-encode, len_utf8_bounds}
use Rattle.std.proofs.lemmas.Bool.Decides.{nat_tests}
use lib.Utf8.{encode}
use Rattle.px_value.specs.Text.{unescaped}
use Rattle.px_lex.specs.String.{with_byte, string_from, escape_from}

-- bytes before what is read of a string
abbrev pub with_bytes : List ℕ → Option (List ℕ × List ℕ) → Option (List ℕ × List ℕ)
with_bytes [] read = read
with_bytes (b ∷ bs) read = with_byte (Some b) (with_bytes bs read)

pub with_bytes-append : (xs ys : List ℕ) (read : Option (List ℕ × List ℕ)) → with_bytes (xs ++ ys) read ≡ with_bytes xs (with_bytes ys read)
with_bytes-append [] ys read = refl
with_bytes-append (x ∷ xs) ys read = ap (with_byte (Some x)) (with_bytes-append xs ys read)

pub with_bytes-none : (xs : List ℕ) → with_bytes xs None ≡ None
with_bytes-none [] = refl
with_bytes-none (x ∷ xs) = rw (with_bytes-none xs)

pub with_bytes-some : (xs ys rest : List ℕ) → with_bytes xs (Some (ys, rest)) ≡ Some (xs ++ ys, rest)
with_bytes-some [] ys rest = refl
with_bytes-some (x ∷ xs) ys rest = rw (with_bytes-some xs ys rest)

-- what is read from here, behind a backslash or not
abbrev pub read_from : Bool → List ℕ → Option (List ℕ × List ℕ)
read_from true text = escape_from text
read_from false text = string_from text

-- a byte that is not special stands for itself
plain : (b : ℕ) (t : List ℕ) → b ≢ 34 → b ≢ 92 → b ≢ 10 → b ≢ 13 → string_from (b ∷ t) ≡ with_byte (Some b) (string_from t)
plain b t quote backslash feed return = rw (ne_eqb b 34 quote, ne_eqb b 92 backslash, ne_eqb b 10 feed, ne_eqb b 13 return)

-- and so does a byte of a character that is not ASCII
high : (b : ℕ) (t : List ℕ) → 128 ≤ b → string_from (b ∷ t) ≡ with_byte (Some b) (string_from t)
high b t h = plain b t (λ e. omega arith) (λ e. omega arith) (λ e. omega arith) (λ e. omega arith)

no_escape : (b : ℕ) → 128 ≤ b → unescaped b ≡ None
no_escape b h = rw (ne_eqb b 34 (λ e. omega arith), ne_eqb b 92 (λ e. omega arith), ne_eqb b 110 (λ e. omega arith), ne_eqb b 116 (λ e. omega arith))

-- no byte is of ASCII, as in a character that is not ASCII
abbrev pub AreHigh : List ℕ → Type 0
AreHigh bytes = (k : ℕ) → k < length bytes → 128 ≤ get_or bytes k 0

pub high_char : (c : ℕ) → 128 ≤ c → AreHigh (encode c)
high_char c big k below = elim (cases_lt (get_or (encode c) k 0) 128) [
  | inl low ↦ absurd (omega (arith, inside_one c [] (encode c) k (sym (append-nil (encode c))) below low))
  | inr other ↦ other
]

high_stand : (bytes t : List ℕ) → AreHigh bytes → string_from (bytes ++ t) ≡ with_bytes bytes (string_from t)
high_stand [] t each = refl
high_stand (b ∷ bytes) t each =
    high b (bytes ++ t) (each 0 (omega arith)) ∙ ap (with_byte (Some b)) (high_stand bytes t (λ k below. each (suc k) (omega arith)))

high_is_no_escape : (bytes t : List ℕ) → AreHigh bytes → 0 < length bytes → escape_from (bytes ++ t) ≡ None
high_is_no_escape [] t each some = absurd (omega arith)
high_is_no_escape (b ∷ bytes) t each some = ap (λ d. with_byte d (string_from (bytes ++ t))) (no_escape b (each 0 (omega arith)))

-- a character that is not special stands for itself
pub plain_char : (c : ℕ) (t : List ℕ) → c ≢ 34 → c ≢ 92 → c ≢ 10 → c ≢ 13 → string_from (encode c ++ t) ≡ with_bytes (encode c) (string_from t)
plain_char c t quote backslash feed return = elim (cases_lt c 128) [
  | inl small ↦ rw (encode_ascii c small) (plain c t quote backslash feed return)
  | inr big ↦ high_stand (encode c) t (high_char c big)
]

-- a character behind a backslash
pub unescaped_char : (c : ℕ) (t : List ℕ) → escape_from (encode c ++ t) ≡ with_byte (unescaped c) (string_from t)
unescaped_char c t = elim (cases_lt c 128) [
  | inl small ↦ rw (encode_ascii c small)
  | inr big ↦
      high_is_no_escape (encode c) t (high_char c big) (omega (arith, length-encode c, (len_utf8_bounds c).0))
      ∙ sym (rw (no_escape c big))
]

-- ---- the steps of a loop that reads a string: `read` is what is read of the whole

abbrev Read : Type 0
Read = Option (List ℕ × List ℕ)

pub no_such_escape : (read : Read) (content old new : List ℕ) (c : ℕ) → read ≡ with_bytes content (escape_from old) → old ≡ encode c ++ new → unescaped c ≡ None → read ≡ None
no_such_escape read content old new c so_far next none =
    so_far ∙ rw (next, unescaped_char c new, none) (with_bytes-none content)

pub unescaped_small : (c d : ℕ) → unescaped c ≡ Some d → d < 128
unescaped_small c d h = grind (arith, nat_tests)

pub an_escape : (read : Read) (content content' old new : List ℕ) (c d : ℕ) → read ≡ with_bytes content (escape_from old) → old ≡ encode c ++ new → unescaped c ≡ Some d → content' ≡ content ++ encode d → read ≡ with_bytes content' (string_from new)
an_escape read content content' old new c d so_far next some more =
    so_far ∙ rw (next, unescaped_char c new, some, more, encode_ascii d (unescaped_small c d some), with_bytes-append content (d ∷ []) (string_from new))

pub the_quote : (read : Read) (content old new : List ℕ) (c : ℕ) → read ≡ with_bytes content (string_from old) → old ≡ encode c ++ new → c ≡ 34 → read ≡ Some (content, new)
the_quote read content old new c so_far next quote =
    so_far ∙ rw (next, quote, encode_ascii 34 (omega arith), with_bytes-some content [] new, append-nil content)

pub a_line_end : (read : Read) (content old new : List ℕ) (c : ℕ) → read ≡ with_bytes content (string_from old) → old ≡ encode c ++ new → (c ≡ 10) ⊎ (c ≡ 13) → read ≡ None
a_line_end read content old new c so_far next (inl feed) = so_far ∙ rw (next, feed, encode_ascii 10 (omega arith)) (with_bytes-none content)
a_line_end read content old new c so_far next (inr return) = so_far ∙ rw (next, return, encode_ascii 13 (omega arith)) (with_bytes-none content)

pub another : (read : Read) (content content' old new : List ℕ) (c : ℕ) → read ≡ with_bytes content (string_from old) → old ≡ encode c ++ new → c ≢ 34 → c ≢ 92 → c ≢ 10 → c ≢ 13 → content' ≡ content ++ encode c → read ≡ with_bytes content' (string_from new)
another read content content' old new c so_far next quote backslash feed return more =
    so_far ∙ rw (next, plain_char c new quote backslash feed return, more, with_bytes-append content (encode c) (string_from new))

pub the_end : (read : Read) (content old : List ℕ) (escape : Bool) → read ≡ with_bytes content (read_from escape old) → length old ≡ 0 → read ≡ None
the_end read content [] true so_far none = so_far ∙ with_bytes-none content
the_end read content [] false so_far none = so_far ∙ with_bytes-none content
the_end read content (c ∷ cs) escape so_far none = absurd (omega arith)

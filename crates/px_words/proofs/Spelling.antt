-- How a word is spelt: as an operand, as `--`, with short options, or with a long one.
use Rattle.std.proofs.Common.{◌≡◌, ℕ, ◌+◌, ◌==◌, ◌&&◌, Bool, true, false, not, List, [], ◌∷◌, ◌++◌, Option, Some, None, length, refl, ap, arith, inl, inr, is_some, codes, IsUtf8, chars}
use Rattle.std.specs.Prelude.{nat_le, slice_get, encode_utf8_all, if◌then◌else◌}
use Rattle.std.specs.Str.{bytes_eq}
use Rattle.std.specs.Str.Parse.{digits_value}
use Rattle.std.proofs.Math.Nat.{suc-add}
use Rattle.std.proofs.Math.Numerals.{one-add}
use Rattle.std.proofs.lemmas.Bool.{cases_Bool, eqb-true, eq-eqb, or_parts}
use Rattle.std.proofs.lemmas.Str.{IsUtf8-drop, IsCharBoundary-after_ascii, encodes-chars}
use Rattle.px_value.proofs.General.{differs_turned}
use Rattle.px_core.specs.Plan.{is_same}
use Rattle.clap.specs.Lexer.{has_byte, name_and_value, long_of, short_of}
use Rattle.px_words.specs.Limited.{is_limit, count_of, behind_text}
use Rattle.px_words.specs.Operands.{is_option}

pub record IsPlain (word : List ℕ) : Type 0 where
  pub option : is_option word ≡ false
  pub dashes : is_same word (codes "--") ≡ false
  pub long : long_of word ≡ None
  pub short : short_of word ≡ None

pub record IsShort (word : List ℕ) : Type 0 where
  pub option : is_option word ≡ true
  pub dashes : is_same word (codes "--") ≡ false
  pub named : is_same word (codes "--events") ≡ false
  pub behind : behind_text (codes "--events=") word ≡ None
  pub count : count_of word ≡ None
  pub long : long_of word ≡ None
  pub flag : ℕ
  pub flags : List ℕ
  pub short : short_of word ≡ Some (flag ∷ flags)
  pub first : ℕ
  pub begins : slice_get (chars (flag ∷ flags)) 0 ≡ Some first

-- a long option, and its number where it has one
pub record IsLong (word : List ℕ) : Type 0 where
  pub option : is_option word ≡ true
  pub dashes : is_same word (codes "--") ≡ false
  pub count : count_of word ≡ None
  pub name : List ℕ
  pub number : Option (List ℕ)
  pub long : long_of word ≡ Some (name, number)
  pub named : is_same word (codes "--events") ≡ (bytes_eq (codes "events") name && not (is_some number))
  pub behind : behind_text (codes "--events=") word ≡ (if bytes_eq (codes "events") name then number else None)

pub data Kind (word : List ℕ) : Type 0 where
  plain : IsPlain word → Kind word
  dashes : is_same word (codes "--") ≡ true → Kind word
  short : IsShort word → Kind word
  long : IsLong word → Kind word

-- ---- the name of a long option, and its value

abbrev parted : List ℕ → List ℕ × Option (List ℕ)
parted [] = ([], None)
parted (c ∷ cs) = if c == 61 then ([], Some cs) else (c ∷ (parted cs).0, (parted cs).1)

parted_is : (text : List ℕ) → name_and_value text ≡ parted text
parted_is [] = refl
parted_is (c ∷ cs) = elim (cases_Bool (c == 61)) [
  | inl is ↦ rw is refl
  | inr isnt ↦ rw (isnt, one-add, suc-add) (ap (λ (p : List ℕ × Option (List ℕ)). (c ∷ p.0, p.1)) (parted_is cs))
]

-- `=` is none of the bytes of a text before it
no_equals : (a c : ℕ) → (c == 61) ≡ true → (a == 61) ≡ false → (a == c) ≡ false
no_equals a c is free = let same : c ≡ 61 = eqb-true c 61 is in rw same free

-- a word beside a text in which no `=` stands: it is the text where it has no value, and its value stands behind the text and `=`
abbrev Splits : List ℕ → List ℕ → Type 0
Splits text word =
    (bytes_eq word text ≡ (bytes_eq text (parted word).0 && not (is_some (parted word).1)))
    × (behind_text (text ++ 61 ∷ []) word ≡ (if bytes_eq text (parted word).0 then (parted word).1 else None))

splits : (text word : List ℕ) → has_byte 61 text ≡ false → Splits text word
splits [] [] free = (refl, refl)
splits [] (c ∷ cs) free = elim (cases_Bool (c == 61)) [
  | inl is ↦ let same : c ≡ 61 = eqb-true c 61 is in rw same (refl, refl)
  | inr isnt ↦ rw (isnt, differs_turned c 61 isnt) (refl, refl)
]
splits (a ∷ xs) [] free = (refl, refl)
splits (a ∷ xs) (c ∷ cs) free = elim (cases_Bool (c == 61)) [
  | inl is ↦ let differs = no_equals a c is (or_parts (a == 61) (has_byte 61 xs) free).0 in rw (is, differs, differs_turned a c differs) (refl, refl)
  | inr isnt ↦ rw isnt (elim (cases_Bool (a == c)) [
    | inl is ↦ let same : a ≡ c = eqb-true a c is in rw (same, eq-eqb c c refl) (splits xs cs (or_parts (a == 61) (has_byte 61 xs) free).1)
    | inr other ↦ rw (other, differs_turned a c other) (refl, refl)
  ])
]

-- ---- the kind of a word

-- what begins with `-` spells no number
no_count : (cs : List ℕ) → count_of (45 ∷ cs) ≡ None
no_count cs = never (nat_le 1 (length (45 ∷ cs))) (nat_le (length (45 ∷ cs)) 6) (is_limit (digits_value 10 (45 ∷ cs)))
  where
    never : (a b c : Bool) → (if a && b && false && c then Some (digits_value 10 (45 ∷ cs)) else None) ≡ None
    never true true c = refl
    never true false c = refl
    never false b c = refl

first_char : (c : ℕ) (cs : List ℕ) → IsUtf8 (45 ∷ c ∷ cs) → (first : ℕ) × (slice_get (chars (c ∷ cs)) 0 ≡ Some first)
first_char c cs text = of (chars (c ∷ cs)) (encodes-chars (c ∷ cs) (IsUtf8-drop (45 ∷ c ∷ cs) 1 text (IsCharBoundary-after_ascii (45 ∷ c ∷ cs) 0 text (omega arith) (omega arith))))
  where
    of : (found : List ℕ) → encode_utf8_all found ≡ c ∷ cs → (first : ℕ) × (slice_get found 0 ≡ Some first)
    of [] e = absurd (cc)
    of (first ∷ more) e = (first, refl)

behind_dashes : (cs : List ℕ) → Kind (45 ∷ 45 ∷ cs)
behind_dashes [] = dashes refl
behind_dashes (c ∷ cs) =
    let parts = rw (← parted_is (c ∷ cs)) at (splits (codes "events") (c ∷ cs) refl) in
    long (record {
      option = refl;
      dashes = refl;
      count = no_count (45 ∷ c ∷ cs);
      name = (name_and_value (c ∷ cs)).0;
      number = (name_and_value (c ∷ cs)).1;
      long = refl;
      named = parts.0;
      behind = parts.1;
    })

behind_dash : (c : ℕ) (cs : List ℕ) → IsUtf8 (45 ∷ c ∷ cs) → Kind (45 ∷ c ∷ cs)
behind_dash c cs text = elim (cases_Bool (c == 45)) [
  | inl is ↦ let same : c ≡ 45 = eqb-true c 45 is in rw same (behind_dashes cs)
  | inr isnt ↦ let first = first_char c cs text in short (record {
    option = refl;
    dashes = rw isnt refl;
    named = rw isnt refl;
    behind = rw (differs_turned c 45 isnt) refl;
    count = no_count (c ∷ cs);
    long = rw isnt refl;
    flag = c;
    flags = cs;
    short = rw isnt refl;
    first = first.0;
    begins = first.1;
  })
]

pub kind_of : (word : List ℕ) → IsUtf8 word → Kind word
kind_of [] text = plain (record { option = refl; dashes = refl; long = refl; short = refl })
kind_of (c ∷ []) text = elim (cases_Bool (c == 45)) [
  | inl is ↦ plain (record { option = refl; dashes = rw is refl; long = rw is refl; short = rw is refl })
  | inr isnt ↦ plain (record { option = refl; dashes = rw isnt refl; long = rw isnt refl; short = rw isnt refl })
]
kind_of (c ∷ d ∷ more) text = elim (cases_Bool (c == 45)) [
  | inl is ↦ let same : c ≡ 45 = eqb-true c 45 is in rw same (behind_dash d more (rw same at text))
  | inr isnt ↦ plain (record { option = isnt; dashes = rw isnt refl; long = rw isnt refl; short = rw isnt refl })
]

-- A string at the front of a text.
use Rattle.std.proofs.Common.{◌≡◌, ℕ, ◌≤◌, true, false, ◌==◌, ◌||◌, List, [], ◌∷◌, ◌++◌, length, drop, Option, Some, None, refl, sym, ap, ◌∙◌, arith, inl, inr}
use Rattle.std.specs.Option.{option_map_or}
use Rattle.std.specs.Str.{IsUtf8, IsCharBoundary}
use Rattle.std.proofs.lemmas.Bool.{cases_Bool, eqb-true}
use Rattle.std.proofs.lemmas.Option.{none-some}
use Rattle.px_lex.specs.Gap.{begins}
use Rattle.px_value.specs.Text.{unescaped}
use Rattle.px_lex.specs.String.{is_quote, with_byte, string_from, escape_from, read_string}
use Rattle.std.specs.Prelude.{nat_le}
use Rattle.px_lex.specs.Fault.{TooLong, string_fault, IsFaulty}
use Rattle.px_lex.specs.Lexer.{Begins}
use Rattle.px_lex.specs.declared.token.TokenKind.TheVariants as kinds
use Rattle.px_lex.proofs.Cuts.{cut_behind}

abbrev pub content_of : Option (List ℕ × List ℕ) → List ℕ
content_of read = option_map_or (λ one. one.0) read []

abbrev behind_of : Option (List ℕ × List ℕ) → List ℕ
behind_of read = option_map_or (λ one. one.1) read []

-- a byte and what is read behind it
pub record Before (byte : Option ℕ) (read : Option (List ℕ × List ℕ)) (content rest : List ℕ) : Type 0 where
  pub first : ℕ
  pub less : List ℕ
  pub byte_is : byte ≡ Some first
  pub read_is : read ≡ Some (less, rest)
  pub content_is : content ≡ first ∷ less

pub before : (byte : Option ℕ) (read : Option (List ℕ × List ℕ)) (content rest : List ℕ) → with_byte byte read ≡ Some (content, rest)
    → Before byte read content rest
before None read content rest h = cc
before (Some b) None content rest h = cc
before (Some b) (Some r) content rest h =
    record { first = b; less = r.0; byte_is = refl; read_is = ap (λ t. Some (r.0, t)) (ap behind_of h); content_is = sym (ap content_of h) }

-- what is read with a byte in front is read without it
pub inner : (byte : Option ℕ) (read : Option (List ℕ × List ℕ)) (content rest : List ℕ) → with_byte byte read ≡ Some (content, rest)
    → (less : List ℕ) × (read ≡ Some (less, rest))
inner byte read content rest h = let b = before byte read content rest h in (b.less, b.read_is)

-- what is read of a string ends where the rest begins
mutual
  pub string_front : (text content rest : List ℕ) → string_from text ≡ Some (content, rest) → (front : List ℕ) × (text ≡ front ++ rest)
  string_front [] content rest h = cc
  string_front (c ∷ cs) content rest h = elim (cases_Bool (c == 34)) [
    | inl quote ↦ let same : cs ≡ rest = ap behind_of (rw quote at h) in (c ∷ [], ap (λ t. c ∷ t) same)
    | inr other ↦ elim (cases_Bool (c == 92)) [
      | inl backslash ↦
          let found : (front : List ℕ) × (cs ≡ front ++ rest) = escape_front cs content rest (rw (other, backslash) at h) in
          (c ∷ found.0, ap (λ t. c ∷ t) found.1)
      | inr plain ↦ elim (cases_Bool ((c == 10) || (c == 13))) [
        | inl line_end ↦ absurd (none-some (content, rest) (rw (other, plain, line_end) at h))
        | inr more ↦
            let one : (less : List ℕ) × (string_from cs ≡ Some (less, rest)) = inner (Some c) (string_from cs) content rest (rw (other, plain, more) at h) in
            let found : (front : List ℕ) × (cs ≡ front ++ rest) = string_front cs one.0 rest one.1 in
            (c ∷ found.0, ap (λ t. c ∷ t) found.1)
      ]
    ]
  ]

  escape_front : (text content rest : List ℕ) → escape_from text ≡ Some (content, rest) → (front : List ℕ) × (text ≡ front ++ rest)
  escape_front [] content rest h = cc
  escape_front (c ∷ cs) content rest h =
      let one : (less : List ℕ) × (string_from cs ≡ Some (less, rest)) = inner (unescaped c) (string_from cs) content rest h in
      let found : (front : List ℕ) × (cs ≡ front ++ rest) = string_front cs one.0 rest one.1 in
      (c ∷ found.0, ap (λ t. c ∷ t) found.1)

pub quote_cut : (text : List ℕ) → begins is_quote text ≡ true → IsUtf8 text → IsCharBoundary text 1
quote_cut [] h u = cc
quote_cut (c ∷ cs) h u = let quote : c ≡ 34 = eqb-true c 34 h in cut_behind (c ∷ cs) (c ∷ []) cs refl (rw quote) u

pub read_is : (text : List ℕ) → begins is_quote text ≡ true → read_string text ≡ string_from (drop 1 text)
read_is [] h = cc
read_is (c ∷ cs) h = rw h

pub string_begins : (text content rest : List ℕ) → begins is_quote text ≡ true → string_from (drop 1 text) ≡ Some (content, rest) → length content ≤ 1024 → Begins (Some (kinds.Text content)) text rest
string_begins [] content rest h r short = cc
string_begins (c ∷ cs) content rest h r short =
    let found : (front : List ℕ) × (cs ≡ front ++ rest) = string_front cs content rest r in
    record {
      spelling = c ∷ found.0;
      split = ap (λ t. c ∷ t) found.1;
      some = omega arith;
      stands = record { read = rw (← found.1, h) r; short = short };
    }

pub long_content : (text content rest : List ℕ) → begins is_quote text ≡ true → string_from (drop 1 text) ≡ Some (content, rest) → nat_le (length content) 1024 ≡ false → IsFaulty TooLong text
long_content text content rest h r long = IsFaulty.string h (ap string_fault (read_is text h ∙ r) ∙ rw long)

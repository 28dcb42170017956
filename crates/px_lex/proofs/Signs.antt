-- Signs at the front of a text.
use Rattle.std.proofs.Common.{◌≡◌, ℕ, ◌<◌, ◌≤◌, Bool, true, false, List, [], ◌∷◌, length, take, drop, Some, None, refl, sym, ◌∙◌, subst, arith, inl, inr}
use Rattle.std.specs.Prelude.{nat_le}
use Rattle.std.specs.Char.{is_ascii}
use Rattle.std.specs.List.{list_all}
use Rattle.std.specs.Str.{IsUtf8, IsCharBoundary, bytes_eq}
use Rattle.std.specs.Cmp.Lexicographic.{bytes_decides}
use Rattle.std.proofs.lemmas.Bool.{and_parts, cases_Bool, false≢true, leb-true}
use Rattle.std.proofs.lemmas.Bool.Decides.{nat_tests}
use Rattle.px_value.proofs.General.{none_from}
use Rattle.px_lex.specs.declared.sign.Sign.{Sign}
use Rattle.px_lex.specs.declared.token.TokenKind.TheVariants as kinds
use Rattle.px_lex.specs.Gap.{begins}
use Rattle.px_lex.specs.Table.{row_of}
use Rattle.px_lex.specs.Fault.{Bad, is_other, IsFaulty}
use Rattle.px_lex.specs.Sign.{sign_rows, sign_of, ends_pair, opens_comment, ends_sign}
use Rattle.px_lex.specs.Lexer.{Begins}
use Rattle.px_lex.proofs.Cuts.{cut_behind}

-- what holds of the spelling of each row holds of a spelling that is found
pub row_of-all : {K : Type 0} (p : List ℕ → Bool) (rows : List (List ℕ × K)) (spelling : List ℕ) (k : K) → list_all (λ row. p row.0) rows ≡ true → row_of rows spelling ≡ Some k → p spelling ≡ true
row_of-all p [] spelling k each found = cc
row_of-all p (row ∷ rows) spelling k each found =
    let parts : (p row.0 ≡ true) × (list_all (λ row. p row.0) rows ≡ true) = and_parts (p row.0) (list_all (λ row. p row.0) rows) each in
    elim (cases_Bool (bytes_eq row.0 spelling)) [
      | inl same ↦ subst (λ s. p s ≡ true) ((bytes_decides row.0 spelling).0 same) parts.0
      | inr other ↦ row_of-all p rows spelling k parts.1 (rw other at found)
    ]

abbrev is_short : List ℕ → Bool
is_short spelling = nat_le (length spelling) 2

pub sign_is_ascii : (spelling : List ℕ) (sign : Sign) → sign_of spelling ≡ Some sign → list_all is_ascii spelling ≡ true
sign_is_ascii spelling sign h = row_of-all (λ s. list_all is_ascii s) sign_rows spelling sign refl h

pub sign_is_short : (spelling : List ℕ) (sign : Sign) → sign_of spelling ≡ Some sign → length spelling ≤ 2
sign_is_short spelling sign h = leb-true (length spelling) 2 (row_of-all is_short sign_rows spelling sign refl h)

abbrev is_one_or_pair : List ℕ → Bool
is_one_or_pair [] = true
is_one_or_pair (a ∷ []) = true
is_one_or_pair (a ∷ b ∷ cs) = ends_pair (a ∷ b ∷ cs)

-- where the second byte ends no sign of two, the two are none
pub no_pair : (text : List ℕ) → 1 < length text → ends_pair text ≡ false → sign_of (take 2 text) ≡ None
no_pair [] long h = absurd (omega arith)
no_pair (a ∷ []) long h = absurd (omega arith)
no_pair (a ∷ b ∷ cs) long h = none_from (sign_of (a ∷ b ∷ [])) (λ sign found.
    false≢true (sym h ∙ row_of-all is_one_or_pair sign_rows (a ∷ b ∷ []) sign refl found))

no_longer_sign : (a b c : ℕ) → sign_of (a ∷ b ∷ c ∷ []) ≡ None
no_longer_sign a b c = none_from (sign_of (a ∷ b ∷ c ∷ [])) (λ sign found. let short : length (a ∷ b ∷ c ∷ []) ≤ 2 = sign_is_short (a ∷ b ∷ c ∷ []) sign found in omega arith)

no_longer_opening : (a b c : ℕ) → opens_comment (a ∷ b ∷ c ∷ []) ≡ false
no_longer_opening a b c = grind (arith, nat_tests)

pub two_cut : (text : List ℕ) (sign : Sign) → 1 < length text → sign_of (take 2 text) ≡ Some sign → IsUtf8 text → IsCharBoundary text 2
two_cut [] sign long h u = absurd (omega arith)
two_cut (a ∷ []) sign long h u = absurd (omega arith)
two_cut (a ∷ b ∷ cs) sign long h u = cut_behind (a ∷ b ∷ cs) (a ∷ b ∷ []) cs refl (sign_is_ascii (a ∷ b ∷ []) sign h) u

pub one_cut : (text : List ℕ) (sign : Sign) → 0 < length text → sign_of (take 1 text) ≡ Some sign → IsUtf8 text → IsCharBoundary text 1
one_cut [] sign long h u = absurd (omega arith)
one_cut (a ∷ cs) sign long h u = cut_behind (a ∷ cs) (a ∷ []) cs refl (sign_is_ascii (a ∷ []) sign h) u

ends_two : (a b : ℕ) (cs : List ℕ) → ends_sign (a ∷ b ∷ []) cs ≡ true
ends_two a b [] = refl
ends_two a b (c ∷ cs) = rw (no_longer_sign a b c, no_longer_opening a b c)

pub two_begins : (text : List ℕ) (sign : Sign) → 1 < length text → sign_of (take 2 text) ≡ Some sign → Begins (Some (kinds.Sign sign)) text (drop 2 text)
two_begins [] sign long h = absurd (omega arith)
two_begins (a ∷ []) sign long h = absurd (omega arith)
two_begins (a ∷ b ∷ cs) sign long h = record { spelling = a ∷ b ∷ []; split = refl; some = omega arith; stands = (h, ends_two a b cs) }

ends_one : (a : ℕ) (cs : List ℕ) → (1 < length (a ∷ cs) → sign_of (take 2 (a ∷ cs)) ≡ None) → opens_comment (take 2 (a ∷ cs)) ≡ false → ends_sign (a ∷ []) cs ≡ true
ends_one a [] unsigned no_comment = refl
ends_one a (b ∷ cs) unsigned no_comment = let none : sign_of (a ∷ b ∷ []) ≡ None = unsigned (omega arith) in rw (none, no_comment)

pub one_begins : (text : List ℕ) (sign : Sign) → 0 < length text → (1 < length text → sign_of (take 2 text) ≡ None) → opens_comment (take 2 text) ≡ false → sign_of (take 1 text) ≡ Some sign → Begins (Some (kinds.Sign sign)) text (drop 1 text)
one_begins [] sign long unsigned no_comment h = absurd (omega arith)
one_begins (a ∷ cs) sign long unsigned no_comment h = record { spelling = a ∷ []; split = refl; some = omega arith; stands = (h, ends_one a cs unsigned no_comment) }

pub none_begins : (text : List ℕ) → begins is_other text ≡ true → (1 < length text → sign_of (take 2 text) ≡ None) → sign_of (take 1 text) ≡ None → IsFaulty Bad text
none_begins [] other unsigned h = cc
none_begins (a ∷ []) other unsigned h = IsFaulty.other refl other h h
none_begins (a ∷ b ∷ cs) other unsigned h = IsFaulty.other refl other h (unsigned (omega arith))

pub some_byte : (text : List ℕ) → begins is_other text ≡ true → 0 < length text
some_byte [] h = cc
some_byte (c ∷ cs) h = omega arith

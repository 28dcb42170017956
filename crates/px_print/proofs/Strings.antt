-- Which bytes a string can hold, and that they are read from between quotes.
use Rattle.std.proofs.Common.{◌≡◌, ℕ, Bool, true, false, not, ◌==◌, List, [], ◌∷◌, ◌++◌, Option, Some, None, refl, sym, ap, ◌∙◌, subst, arith, append_assoc, inl, inr}
use Rattle.std.specs.List.{list_all, flat_map}
use Rattle.std.proofs.lemmas.Bool.{and_parts, and_from, cases_Bool, eqb-true}
use Rattle.std.proofs.lemmas.Bool.Decides.{nat_tests}
use Rattle.px_value.specs.Text.{escaped, unescaped}
use Rattle.px_lex.specs.String.{is_quote, is_backslash, is_line_end, string_from, escape_from, with_byte}
use Rattle.px_lex.proofs.StringFronts.{content_of, before}

-- a byte that can stand in a string, as an escape or by itself
abbrev pub is_spelled : ℕ → Bool
is_spelled c = not (c == 13)

-- ---- what was read

escape_spelled : (c b : ℕ) → unescaped c ≡ Some b → is_spelled b ≡ true
escape_spelled c b h = grind (arith, nat_tests)

plain_spelled : (c : ℕ) → is_line_end c ≡ false → is_spelled c ≡ true
plain_spelled c h = grind (arith, nat_tests)

one_more : (first : ℕ) (less content : List ℕ) → content ≡ first ∷ less → is_spelled first ≡ true
    → list_all is_spelled less ≡ true → list_all is_spelled content ≡ true
one_more first less content is here all =
    subst (λ cs. list_all is_spelled cs ≡ true) (sym is) (and_from (is_spelled first) (list_all is_spelled less) here all)

mutual
  pub all_spelled : (cs content rest : List ℕ) → string_from cs ≡ Some (content, rest) → list_all is_spelled content ≡ true
  all_spelled [] content rest h = cc
  all_spelled (c ∷ cs) content rest h = elim (cases_Bool (is_quote c)) [
    | inl quote ↦
        let read : ◌≡◌ {A = Option (List ℕ × List ℕ)} (Some ([], cs)) (Some (content, rest)) = rw quote at h in
        subst (λ cs. list_all is_spelled cs ≡ true) (ap content_of read) refl
    | inr no_quote ↦ elim (cases_Bool (is_backslash c)) [
      | inl backslash ↦ all_escaped cs content rest (rw (no_quote, backslash) at h)
      | inr no_backslash ↦ elim (cases_Bool (is_line_end c)) [
        | inl end ↦ let none : ◌≡◌ {A = Option (List ℕ × List ℕ)} None (Some (content, rest)) = rw (no_quote, no_backslash, end) at h in cc
        | inr no_end ↦
            let b = before (Some c) (string_from cs) content rest (rw (no_quote, no_backslash, no_end) at h) in
            let same : c ≡ b.first = cc in
            one_more b.first b.less content b.content_is (subst (λ x. is_spelled x ≡ true) same (plain_spelled c no_end))
            (all_spelled cs b.less rest b.read_is)
      ]
    ]
  ]

  all_escaped : (cs content rest : List ℕ) → escape_from cs ≡ Some (content, rest) → list_all is_spelled content ≡ true
  all_escaped [] content rest h = cc
  all_escaped (c ∷ cs) content rest h =
      let b = before (unescaped c) (string_from cs) content rest h in
      one_more b.first b.less content b.content_is (escape_spelled c b.first b.byte_is) (all_spelled cs b.less rest b.read_is)

-- ---- what is read

read_byte : (c : ℕ) (rest : List ℕ) → is_spelled c ≡ true → string_from (escaped c ++ rest) ≡ with_byte (Some c) (string_from rest)
read_byte c rest h = elim (cases_Bool (c == 34)) [
  | inl quote ↦ at c 34 (eqb-true c 34 quote) refl
  | inr no_quote ↦ elim (cases_Bool (c == 92)) [
    | inl backslash ↦ at c 92 (eqb-true c 92 backslash) refl
    | inr no_backslash ↦ elim (cases_Bool (c == 10)) [
      | inl feed ↦ at c 10 (eqb-true c 10 feed) refl
      | inr no_feed ↦ elim (cases_Bool (c == 9)) [
        | inl tab ↦ at c 9 (eqb-true c 9 tab) refl
        | inr no_tab ↦ let no_return : (c == 13) ≡ false = grind (arith, nat_tests) in rw (no_quote, no_backslash, no_feed, no_tab, no_quote, no_backslash, no_feed, no_return)
      ]
    ]
  ]
]
  where
    at : (c d : ℕ) → c ≡ d → string_from (escaped d ++ rest) ≡ with_byte (Some d) (string_from rest)
        → string_from (escaped c ++ rest) ≡ with_byte (Some c) (string_from rest)
    at c d same h = subst (λ x. string_from (escaped x ++ rest) ≡ with_byte (Some x) (string_from rest)) (sym same) h

pub read_all : (content rest : List ℕ) → list_all is_spelled content ≡ true
    → string_from (flat_map escaped content ++ (34 ∷ rest)) ≡ Some (content, rest)
read_all [] rest h = refl
read_all (c ∷ content) rest h =
    let parts = and_parts (is_spelled c) (list_all is_spelled content) h in
    ap string_from (append_assoc (escaped c) (flat_map escaped content) (34 ∷ rest))
    ∙ read_byte c (flat_map escaped content ++ (34 ∷ rest)) parts.0
    ∙ ap (with_byte (Some c)) (read_all content rest parts.1)

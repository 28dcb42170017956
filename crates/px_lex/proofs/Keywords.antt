-- A word is a keyword where the rows of its length have it.
use Rattle.std.proofs.Common.{◌≡◌, ℕ, ◌<◌, ◌≤◌, ◌==◌, Bool, true, false, List, [], length, map, None, refl, sym, ap, ◌∙◌, arith, inl, inr}
use Rattle.std.specs.Prelude.{nat_lt, get_or}
use Rattle.std.specs.List.{list_all, range_with_len}
use Rattle.std.specs.Str.{bytes_eq}
use Rattle.std.specs.Cmp.Lexicographic.{bytes_decides}
use Rattle.std.proofs.lemmas.Bool.{cases_Bool, false≢true, eq-eqb, ltb-true, ltb-false}
use Rattle.std.proofs.Math.ListN.{get_or-eq_default}
use Rattle.std.proofs.lemmas.List.{length-map}
use Rattle.std.proofs.lemmas.List.FromFn.{get_or-map-range_with_len}
use Rattle.std.proofs.lemmas.Map.Entries.{lookup-filter-keys}
use Rattle.px_value.proofs.General.{none_from}
use Rattle.px_lex.specs.declared.keyword.Keyword.{Keyword}
use Rattle.px_lex.specs.Keyword.{keyword_rows, keyword_of}
use Rattle.px_lex.specs.Table.{row_of, of_length}
use Rattle.px_lex.proofs.Signs.{row_of-all}

pub none_past : {X Y : Type 0} (view : X → Y) (xs : List X) (place : ℕ) (other : Y) → length xs ≤ place → get_or (map view xs) place other ≡ other
none_past view xs place other past = get_or-eq_default (map view xs) other (rw (length-map xs view) past)

row_of-of_length : {K : Type 0} (rows : List (List ℕ × K)) (spelling : List ℕ) → row_of (of_length rows (length spelling)) spelling ≡ row_of rows spelling
row_of-of_length rows spelling =
    lookup-filter-keys (λ key. bytes_eq key spelling) (λ key. length key == length spelling) true
    (λ key same. eq-eqb (length key) (length spelling) (ap length ((bytes_decides key spelling).0 same))) rows

-- a word that lacks what the spelling of each keyword has is none
pub no_keyword : (p : List ℕ → Bool) → list_all (λ (row : List ℕ × Keyword). p row.0) keyword_rows ≡ true → (word : List ℕ) → p word ≡ false → keyword_of word ≡ None
no_keyword p each word h = none_from (keyword_of word) (λ k found. false≢true (sym h ∙ row_of-all p keyword_rows word k each found))

abbrev is_short : List ℕ → Bool
is_short spelling = nat_lt (length spelling) 27

pub keyword_by_length : (word : List ℕ) → row_of (get_or (map (of_length keyword_rows) (range_with_len 0 27)) (length word) []) word ≡ keyword_of word
keyword_by_length word = elim (cases_Bool (nat_lt (length word) 27)) [
  | inl short ↦
      let within : length word < 27 = ltb-true (length word) 27 short in
      ap (λ rows. row_of rows word) (get_or-map-range_with_len (of_length keyword_rows) 0 27 (length word) (length word) [] within (omega arith)) ∙ row_of-of_length keyword_rows word
  | inr past ↦
      let long : 27 ≤ length word = ltb-false (length word) 27 past in
      ap (λ rows. row_of rows word) (get_or-eq_default (map (of_length keyword_rows) (range_with_len 0 27)) [] long) ∙ sym (no_keyword is_short refl word past)
]

-- Where a text may be cut: round blanks and before signs.
use Rattle.std.proofs.Common.{◌≡◌, ℕ, ◌+◌, ◌-◌, ◌<◌, ◌≤◌, true, List, [], ◌∷◌, suc, length, get_or, reverse, arith, inl, inr}
use Rattle.std.specs.Char.{is_ascii}
use Rattle.std.specs.List.{suffix_len, position_or_len}
use Rattle.std.specs.Prelude.{not}
use Rattle.std.specs.Str.{IsCharBoundary}
use Rattle.std.proofs.iter.AsciiBoundary.{before_ascii}
use Rattle.std.proofs.lemmas.Bool.{cases_Bool, ltb-true}
use Rattle.std.proofs.lemmas.Bool.Decides.{nat_tests}
use Rattle.std.proofs.lemmas.List.{get_or-reverse}
use Rattle.std.proofs.lemmas.List.Sums.{passes_at_first, prefix_len-le-length, prefix_len_passes, suffix_len-le-length}
use Rattle.px_script.specs.Place.{is_sign, ends_place, behind_byte, place_length}
use Rattle.px_script.specs.Text.{is_blank}
use Rattle.px_script.specs.declared.place.Quoting.{Quoting}
use Rattle.px_script.specs.declared.place.Quoting.TheVariants.{Outside, Inside, Escaped}

pub blank_ascii : (c : ℕ) → is_blank c ≡ true → is_ascii c ≡ true
blank_ascii c h = grind (arith, nat_tests)

blank_small : (c : ℕ) → is_blank c ≡ true → c < 128
blank_small c h = ltb-true c 128 (blank_ascii c h)

sign_small : (c : ℕ) → is_sign c ≡ true → c < 128
sign_small c h = grind (arith, nat_tests)

-- before the first blank
pub cut_word : (text : List ℕ) → IsCharBoundary text (position_or_len is_blank text)
cut_word text =
    before_ascii text (position_or_len is_blank text) (prefix_len-le-length (λ c. not (is_blank c)) text)
    (λ inside. blank_small _ (passes_at_first is_blank text 0 inside))

-- before the blanks at the end
pub cut_end : (text : List ℕ) → IsCharBoundary text (length text - suffix_len is_blank text)
cut_end text = before_ascii text (length text - suffix_len is_blank text) (omega arith) (λ inside.
    let some : 0 < suffix_len is_blank text = omega arith in
    let few : suffix_len is_blank text ≤ length text = suffix_len-le-length is_blank text in
    let last : ℕ = suffix_len is_blank text - 1 in
    let blank : is_blank (get_or text (length text - 1 - last) 0) ≡ true
    = rw (← get_or-reverse text last 0 (omega arith)) (prefix_len_passes is_blank (reverse text) last 0 (omega arith)) in
    let place : length text - 1 - last ≡ length text - suffix_len is_blank text = omega arith in
    blank_small _ (rw (← place) blank))

-- ---- places

place_within : (quoting : Quoting) (text : List ℕ) → place_length quoting text ≤ length text
place_within quoting [] = omega arith
place_within quoting (c ∷ cs) = elim (cases_Bool (ends_place quoting c)) [
  | inl ends ↦ rw ends (omega arith)
  | inr on ↦ rw on (omega (arith, place_within (behind_byte quoting c) cs))
]

ending_small : (quoting : Quoting) (c : ℕ) → ends_place quoting c ≡ true → c < 128
ending_small Outside c h = sign_small c h
ending_small Inside c h = cc
ending_small Escaped c h = cc

place_ends : (quoting : Quoting) (text : List ℕ) → place_length quoting text < length text → get_or text (place_length quoting text) 0 < 128
place_ends quoting [] within = absurd (omega arith)
place_ends quoting (c ∷ cs) within = elim (cases_Bool (ends_place quoting c)) [
  | inl ends ↦ rw ends (ending_small quoting c ends)
  | inr on ↦
      let less : place_length (behind_byte quoting c) cs < length cs = omega (arith, rw on at within) in
      let next : 1 + place_length (behind_byte quoting c) cs ≡ suc (place_length (behind_byte quoting c) cs) = omega arith in
      rw (on, next) (place_ends (behind_byte quoting c) cs less)
]

-- before the sign that ends a place
pub cut_place : (text : List ℕ) → IsCharBoundary text (place_length Outside text)
cut_place text = before_ascii text (place_length Outside text) (place_within Outside text) (place_ends Outside text)

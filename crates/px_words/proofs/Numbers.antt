-- A word that spells no number of 32 bits.
use Rattle.std.proofs.Common.{◌≡◌, ℕ, ◌^◌, ◌<◌, ◌≤◌, true, List, refl, ap, ◌∙◌, arith, Result, Ok, Err, Some, None, inl, inr}
use Rattle.std.specs.Prelude.{nat_le, nat_lt}
use Rattle.std.specs.Result.{OkIff, result_ok}
use Rattle.std.specs.Str.Parse.{IsNumeral, digits_value, without_leading_plus}
use Rattle.std.proofs.lemmas.Bool.{cases_Bool, and_parts, leb-true, ltb-true, lt-ltb}
use Rattle.px_value.specs.Name.{is_digits}
use Rattle.px_value.proofs.Digits.{digits_plain}
use Rattle.px_words.specs.Limited.{event_limit, is_limit, count_of}
use Rattle.px_words.specs.Seed.{seed_of}

not_read : (ds : List ℕ) → is_digits 6 ds ≡ true
    → ¬ (IsNumeral 10 (without_leading_plus ds) × (digits_value 10 (without_leading_plus ds) < 2 ^ 32)) → None ≡ count_of ds
not_read ds digits none = rw digits (elim (cases_Bool (is_limit (digits_value 10 ds))) [
  | inl limit ↦
      let most : digits_value 10 ds ≤ event_limit = leb-true (digits_value 10 ds) event_limit (and_parts (nat_le 1 (digits_value 10 ds)) (nat_le (digits_value 10 ds) event_limit) limit).1 in
      absurd (none (rw (digits_plain 6 ds digits).sign ((digits_plain 6 ds digits).numeral, omega arith)))
  | inr other ↦ rw other refl
])

-- where the library reads no number, there is none
pub no_count : {E : Type 0} (ds : List ℕ) (read : Result ℕ E) → is_digits 6 ds ≡ true
    → OkIff read (IsNumeral 10 (without_leading_plus ds) × (digits_value 10 (without_leading_plus ds) < 2 ^ 32)) (digits_value 10 (without_leading_plus ds))
    → result_ok read ≡ None → None ≡ count_of ds
no_count ds (Ok count) digits parses none = cc
no_count ds (Err fault) digits parses none = not_read ds digits parses

-- a seed is what the library reads of its digits
pub seed_read : {E : Type 0} (ds : List ℕ) (read : Result ℕ E) → is_digits 10 ds ≡ true
    → OkIff read (IsNumeral 10 (without_leading_plus ds) × (digits_value 10 (without_leading_plus ds) < 2 ^ 32)) (digits_value 10 (without_leading_plus ds))
    → result_ok read ≡ seed_of ds
seed_read ds (Ok seed) digits parses =
    let sign = (digits_plain 10 ds digits).sign in
    let below : digits_value 10 ds < 2 ^ 32 = rw sign at parses.0.1 in
    rw (digits, lt-ltb (digits_value 10 ds) (2 ^ 32) below) (ap Some (parses.1 ∙ ap (digits_value 10) sign))
seed_read ds (Err fault) digits parses = rw digits (elim (cases_Bool (nat_lt (digits_value 10 ds) (2 ^ 32))) [
  | inl small ↦ absurd (parses (rw (digits_plain 10 ds digits).sign ((digits_plain 10 ds digits).numeral, ltb-true (digits_value 10 ds) (2 ^ 32) small)))
  | inr large ↦ rw large refl
])

-- A number that spells no integer of 32 bits.
use Rattle.std.proofs.Common.{◌≡◌, ℕ, true, List, [], ◌∷◌, refl, None, inl, inr, w32}
use Rattle.std.specs.Prelude.{◌==◌, ℤ, FitsSigned}
use Rattle.std.specs.Str.Parse.{IsNumeral, signed_digits_value, without_leading_sign}
use Rattle.std.proofs.lemmas.Bool.{cases_Bool}
use Rattle.px_value.specs.Arithmetic.{fits_32_bits}
use Rattle.px_value.specs.Name.{is_digits}
use Rattle.px_value.specs.declared.value.Value.TheVariants as values
use Rattle.px_value.proofs.Digits.{digits_plain}
use Rattle.px_value.proofs.Integers.{fits_of}
use Rattle.px_script.specs.Value.{plain, is_number, integer_of}

number_numeral : (bs : List ℕ) → is_number bs ≡ true → IsNumeral 10 (without_leading_sign bs)
number_numeral [] h = cc
number_numeral (c ∷ cs) h = elim (cases_Bool (c == 45)) [
  | inl minus ↦ rw minus (digits_plain 10 cs (rw minus at h)).numeral
  | inr digit ↦
      let digits : is_digits 10 (c ∷ cs) ≡ true = rw digit at h in
      rw (digit, (digits_plain 10 (c ∷ cs) digits).sign) (digits_plain 10 (c ∷ cs) digits).numeral
]

pub no_integer : (bs : List ℕ) → is_number bs ≡ true → ¬ (IsNumeral 10 (without_leading_sign bs) × FitsSigned w32 (signed_digits_value 10 bs)) → None ≡ integer_of bs
no_integer bs number none = rw number (by (signed_digits_value 10 bs) (λ fit. none (number_numeral bs number, fit)))
  where
    by : (z : ℤ) → ¬ (FitsSigned w32 z) → None ≡ plain (values.Integer z)
    by z none = elim (cases_Bool (fits_32_bits z)) [
      | inl is ↦ absurd (none (fits_of z is))
      | inr isnt ↦ rw isnt refl
    ]

-- Which numbers fit 32 bits.
use Rattle.std.proofs.Common.{◌≡◌, zero, suc, ◌^◌, ◌<◌, true, false, Option, Some, None, arith, refl, inl, inr}
use Rattle.std.specs.Prelude.{ℤ, pos, negsuc, SomeIff, FitsSigned, int_div}
use Rattle.std.specs.Int.{w32, CanDivide, IsNonZero}
use Rattle.std.specs.Ordering.{int_eq}
use Rattle.std.proofs.lemmas.Bool.{lt-ltb, ltb-true, cases_Bool}
use Rattle.std.proofs.lemmas.Bool.Decides.{nat_tests}
use Rattle.px_value.specs.Arithmetic.{fits_32_bits, integer_of, integer_within, value_arith}
use Rattle.px_value.specs.declared.arithmetic.ArithOp.TheVariants.{Over}
use Rattle.px_value.specs.declared.value.Value.TheVariants as values

pub fits_from : (z : ℤ) → FitsSigned w32 z → fits_32_bits z ≡ true
fits_from (pos n) h = lt-ltb n (2 ^ 31) h.sfits
fits_from (negsuc n) h = lt-ltb n (2 ^ 31) h.sfits

pub fits_of : (z : ℤ) → fits_32_bits z ≡ true → FitsSigned w32 z
fits_of (pos n) h = let below : n < 2 ^ 31 = ltb-true n (2 ^ 31) h in record { sfits = below }
fits_of (negsuc n) h = let below : n < 2 ^ 31 = ltb-true n (2 ^ 31) h in record { sfits = below }

nonzero : (b : ℤ) → IsNonZero w32 b → int_eq b (pos 0) ≡ false
nonzero (pos zero) h = absurd (omega arith)
nonzero (pos (suc n)) h = grind (arith, nat_tests)
nonzero (negsuc n) h = refl

nonzero_from : (b : ℤ) → FitsSigned w32 b → int_eq b (pos 0) ≡ false → IsNonZero w32 b
nonzero_from (pos zero) fits h = cc
nonzero_from (pos (suc n)) fits h = omega arith
nonzero_from (negsuc n) fits h = let small : n < 2 ^ 31 = fits.sfits in omega arith

-- what a checked operation gives: the number where it fits, and none where it doesn't
pub fitting : (z : ℤ) (number : Option ℤ) → SomeIff number (FitsSigned w32 z) z → integer_of number ≡ integer_within z
fitting z (Some n) h = rw (fits_from z h.0, h.1)
fitting z None h = elim (cases_Bool (fits_32_bits z)) [
  | inl fits ↦ absurd (h (fits_of z fits))
  | inr wide ↦ rw wide
]

-- what a checked division gives
pub dividing : (a b : ℤ) (number : Option ℤ) → FitsSigned w32 b → SomeIff number (CanDivide w32 a b) (int_div a b) → integer_of number ≡ value_arith Over (values.Integer a) (values.Integer b)
dividing a b (Some n) small h = rw (nonzero b h.0.0, fits_from (int_div a b) h.0.1, h.1)
dividing a b None small h = elim (cases_Bool (int_eq b (pos 0))) [
  | inl none ↦ rw none
  | inr other ↦ elim (cases_Bool (fits_32_bits (int_div a b))) [
    | inl fits ↦ absurd (h (nonzero_from b small other, fits_of (int_div a b) fits))
    | inr wide ↦ rw (other, wide)
  ]
]

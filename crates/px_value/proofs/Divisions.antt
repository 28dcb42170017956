-- A quotient times its divisor lies between 0 and the dividend, so it fits where the dividend does.
use Rattle.std.proofs.Common.{◌≡◌, suc, ◌%◌, ◌≤◌, arith, inl, inr}
use Rattle.std.specs.Prelude.{ℤ, pos, negsuc, ◌+ℤ◌, ◌*ℤ◌, ◌≤ℤ◌, FitsSigned, int_div, int_rem, unsigned_abs, IsTrue}
use Rattle.std.specs.Int.{w32}
use Rattle.std.specs.Ordering.{int_eq}
use Rattle.std.proofs.lemmas.Bool.{cases_Bool, false≢true}
use Rattle.std.proofs.lemmas.Int.{ints, quot-rem}
use Rattle.std.proofs.Math.Nat.{mod-le}
use Rattle.px_value.specs.Arithmetic.{fits_32_bits, value_arith, value_add}
use Rattle.px_value.specs.Value.{is_known}
use Rattle.px_value.specs.declared.arithmetic.ArithOp.TheVariants.{Over, Rest, Times}
use Rattle.px_value.specs.declared.value.Value.TheVariants as values
use Rattle.px_value.proofs.Integers.{fits_from}

-- a number, less a rest of its own sign that is no larger
between : (a q : ℤ) (r : ℤ) → FitsSigned w32 a → q +ℤ r ≡ a → ((pos 0 ≤ℤ r) × (r ≤ℤ a)) → FitsSigned w32 q
between a q r fits sum inside = omega (arith, ints)

between_below : (a q : ℤ) (r : ℤ) → FitsSigned w32 a → q +ℤ r ≡ a → ((r ≤ℤ pos 0) × (a ≤ℤ r)) → FitsSigned w32 q
between_below a q r fits sum inside = omega (arith, ints)

product_fits : (a b : ℤ) → FitsSigned w32 a → FitsSigned w32 (int_div a b *ℤ b)
product_fits (pos n) b fits = between (pos n) (int_div (pos n) b *ℤ b) (int_rem (pos n) b) fits (quot-rem (pos n) b) (let small : n % unsigned_abs b ≤ n = mod-le n (unsigned_abs b) in (omega (arith, ints), omega (arith, ints)))
product_fits (negsuc n) b fits = between_below (negsuc n) (int_div (negsuc n) b *ℤ b) (int_rem (negsuc n) b) fits (quot-rem (negsuc n) b) (let small : suc n % unsigned_abs b ≤ suc n = mod-le (suc n) (unsigned_abs b) in (omega (arith, ints), omega (arith, ints)))

pub division_law : (a b : ℤ) → FitsSigned w32 a →
    IsTrue (is_known (value_arith Over (values.Integer a) (values.Integer b))) →
    value_add (value_arith Times (value_arith Over (values.Integer a) (values.Integer b)) (values.Integer b)) (value_arith Rest (values.Integer a) (values.Integer b)) ≡ values.Integer a
division_law a b fits known =
    elim (cases_Bool (int_eq b (pos 0))) [
      | inl none ↦ absurd (false≢true (rw none at known))
      | inr other ↦ elim (cases_Bool (fits_32_bits (int_div a b))) [
        | inl short ↦ rw (other, short, fits_from (int_div a b *ℤ b) (product_fits a b fits), quot-rem a b, fits_from a fits)
        | inr wide ↦ absurd (false≢true (rw (other, wide) at known))
      ]
    ]

-- The integer operations, and the sum of two values.
use Rattle.std.specs.Prelude.{Bool, ℤ, pos, negsuc, ◌+ℤ◌, ◌-ℤ◌, ◌*ℤ◌, ◌^◌, ◌++◌, int_div, int_rem, nat_lt, Option, Some, None, if◌then◌else◌}
use Rattle.std.specs.Int.{int_min, int_max}
use Rattle.std.specs.Ordering.{int_eq}
use Rattle.px_value.specs.declared.value.Value.{Value}
use Rattle.px_value.specs.declared.value.Value.TheVariants as values
use Rattle.px_value.specs.declared.arithmetic.ArithOp.{ArithOp}
use Rattle.px_value.specs.declared.arithmetic.ArithOp.TheVariants.{Minus, Times, Over, Rest, Min, Max}
use Rattle.px_value.specs.Text.{is_short_text}

-- a number that may be missing, as a value
abbrev pub integer_of : Option ℤ → Value
integer_of (Some z) = values.Integer z
integer_of None = values.Unknown

-- whether a number is from -2^31 to 2^31 - 1
abbrev pub fits_32_bits : ℤ → Bool
fits_32_bits (pos n) = nat_lt n (2 ^ 31)
fits_32_bits (negsuc n) = nat_lt n (2 ^ 31)

-- a result outside 32 bits is UNKNOWN
abbrev pub integer_within : ℤ → Value
integer_within z = if fits_32_bits z then values.Integer z else values.Unknown

-- the quotient rounds toward zero, and the rest has the dividend's sign; with a divisor of zero
-- both are UNKNOWN
abbrev pub value_arith : ArithOp → Value → Value → Value
value_arith Minus (values.Integer a) (values.Integer b) = integer_within (a -ℤ b)
value_arith Times (values.Integer a) (values.Integer b) = integer_within (a *ℤ b)
value_arith Over (values.Integer a) (values.Integer b) =
    if int_eq b (pos 0) then values.Unknown else integer_within (int_div a b)
value_arith Rest (values.Integer a) (values.Integer b) =
    if int_eq b (pos 0) then values.Unknown else values.Integer (int_rem a b)
value_arith Min (values.Integer a) (values.Integer b) = values.Integer (int_min a b)
value_arith Max (values.Integer a) (values.Integer b) = values.Integer (int_max a b)
value_arith op a b = values.Unknown

-- Integers are added and texts joined; a text of over 1,024 bytes is UNKNOWN
abbrev pub value_add : Value → Value → Value
value_add (values.Integer a) (values.Integer b) = integer_within (a +ℤ b)
value_add (values.Text a) (values.Text b) =
    if is_short_text (a ++ b) then values.Text (a ++ b) else values.Unknown
value_add a b = values.Unknown

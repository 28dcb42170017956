-- Which values may be told to a plan, and what `==` answers of two values.
use Rattle.std.specs.Prelude.{Bool, true, false, ◌&&◌}
use Rattle.std.specs.Str.{is_utf8}
use Rattle.px_value.specs.Arithmetic.{fits_32_bits}
use Rattle.px_value.specs.Text.{is_short_text}
use Rattle.px_value.specs.contracts.value.ValuePartialEq.TheImpl as equality
use Rattle.px_value.specs.declared.value.Value.{Value}
use Rattle.px_value.specs.declared.value.Value.TheVariants as values

-- a plain value is a Boolean, an Integer of 32 bits, or a Text of UTF-8 of at most 1,024 bytes
abbrev pub is_plain : Value → Bool
is_plain (values.Boolean truth) = true
is_plain (values.Integer number) = fits_32_bits number
is_plain (values.Text text) = is_utf8 text && is_short_text text
is_plain value = false

abbrev pub is_plain_or_unknown : Value → Bool
is_plain_or_unknown values.Unknown = true
is_plain_or_unknown value = is_plain value

-- what `==` answers of two values
abbrev pub value_eq : Value → Value → Bool
value_eq = (equality.ghosts).eq

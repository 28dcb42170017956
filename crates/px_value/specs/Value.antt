-- What is said of a value as a whole, and of a place in a list of values.
use Rattle.std.specs.Prelude.{ℕ, Bool, true, false, pos, nat_lt, List, length, Option, Some, None, if◌then◌else◌}
use Rattle.px_value.specs.declared.value.Value.{Value}
use Rattle.px_value.specs.declared.value.Value.TheVariants as values

-- every value but UNKNOWN is known
abbrev pub is_known : Value → Bool
is_known values.Unknown = false
is_known value = true

-- the place that a value names among so many: an Integer from 0 to below their number
abbrev pub place_in : ℕ → Value → Option ℕ
place_in size (values.Integer (pos place)) = if nat_lt place size then Some place else None
place_in size at = None

-- the place that it names in a list
abbrev pub value_index : List Value → Value → Option ℕ
value_index cells at = place_in (length cells) at

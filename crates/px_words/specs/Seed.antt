-- The seed of `soak`.
use Rattle.std.specs.Prelude.{ℕ, ◌^◌, Bool, ◌&&◌, nat_lt, List, Option, Some, None, if◌then◌else◌}
use Rattle.std.specs.Str.Parse.{digits_value}
use Rattle.px_value.specs.Name.{is_digits}

-- 1 to 10 digits for a number of at most 2^32 - 1
abbrev pub is_seed : List ℕ → Bool
is_seed digits = is_digits 10 digits && nat_lt (digits_value 10 digits) (2 ^ 32)

-- the number that they spell
abbrev pub seed_of : List ℕ → Option ℕ
seed_of digits = if is_seed digits then Some (digits_value 10 digits) else None

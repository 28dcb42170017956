-- What several crates say of options in general.
use Rattle.std.specs.Prelude.{ℕ, Bool, false, nat_eq, Option, Some, None}

-- whether it is this number
abbrev pub is_number : Option ℕ → ℕ → Bool
is_number None number = false
is_number (Some other) number = nat_eq other number

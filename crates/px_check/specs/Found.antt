-- The first of faults that lie behind another one: the one with the least token, and of several at one token that of the
-- least kind.
use Rattle.std.specs.Prelude.{ℕ, Bool, true, List, [], Option, Some, None, if◌then◌else◌}
use Rattle.std.specs.List.{fold, filter}
use Rattle.std.specs.Option.{option_map_or}
use Rattle.px_syntax.specs.declared.fault.FaultKind.TheVariants.{TooLarge}
use Rattle.px_syntax.specs.Fault.{Fault, fault_at, is_before}
use Rattle.px_check.specs.declared.found.Spot.{Spot}

abbrev pub fault_of : Spot → Fault
fault_of spot = record { token = spot.token; kind = spot.kind }

-- a fault lies behind the floor, or there is no floor
abbrev pub is_behind : Option Fault → Fault → Bool
is_behind None fault = true
is_behind (Some floor) fault = is_before floor fault

-- those of faults that lie behind the floor
abbrev pub behind : Option Fault → List Fault → List Fault
behind floor = filter (is_behind floor)

-- the fault at the token with which there were too many, if there were
abbrev pub passed_fault : Option ℕ → List Fault
passed_fault passed = option_map_or (fault_at TooLarge) passed []

-- what is looked for, and what was found so far: the first fault behind the floor
pub record Sought : Type 0 where
  pub floor : Option Fault
  pub first : Option Fault

-- the earlier of a fault and one that was found before, if one was
abbrev pub first_with : Option Fault → Fault → Option Fault
first_with None fault = Some fault
first_with (Some other) fault = if is_before fault other then Some fault else Some other

-- a fault more
abbrev pub earlier : Sought → Fault → Sought
earlier sought fault =
    if is_behind sought.floor fault
    then record { floor = sought.floor; first = first_with sought.first fault }
    else sought

-- these faults more
unfoldable pub noted : Sought → List Fault → Sought
noted = fold earlier

-- The faults of a tree: their kinds, and their order.
use Rattle.std.specs.Prelude.{ℕ, Bool, ◌||◌, ◌&&◌, ◌==◌, nat_lt, List, [], ◌∷◌, if◌then◌else◌}
use Rattle.std.specs.List.{fold}
use Rattle.px_syntax.specs.declared.fault.FaultKind.{FaultKind}
use Rattle.px_syntax.specs.declared.fault.FaultKind.TheVariants.{Undeclared, Redeclared, TypeDiffers, NotAssignable, NoSuchNode, ArgCount, DoubleCondition, TooLarge}

-- the number of a kind
abbrev pub number_of : FaultKind → ℕ
number_of Undeclared = 1
number_of Redeclared = 2
number_of TypeDiffers = 3
number_of NotAssignable = 4
number_of NoSuchNode = 5
number_of ArgCount = 6
number_of DoubleCondition = 7
number_of TooLarge = 8

-- what is wrong, and at which token
pub record Fault : Type 0 where
  pub token : ℕ
  pub kind : FaultKind

-- one fault
abbrev pub fault_at : FaultKind → ℕ → List Fault
fault_at kind token = record { token = token; kind = kind } ∷ []

-- one fault where something holds, and else none
abbrev pub fault_where : Bool → FaultKind → ℕ → List Fault
fault_where holds kind token = if holds then fault_at kind token else []

-- ---- their order: by token, and then by kind

-- one fault comes before another
abbrev pub is_before : Fault → Fault → Bool
is_before fault other =
    nat_lt fault.token other.token
    || (fault.token == other.token && nat_lt (number_of fault.kind) (number_of other.kind))

-- a fault at its place among those in order, each of which stands there once
abbrev pub placed : List Fault → Fault → List Fault
placed [] fault = fault ∷ []
placed (other ∷ others) fault =
    if is_before fault other then fault ∷ other ∷ others
    else if is_before other fault then other ∷ placed others fault
    else other ∷ others

-- faults by their order, each once
abbrev pub in_order : List Fault → List Fault
in_order = fold placed []

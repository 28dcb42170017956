-- The writers of variables, in the order in which they go.
use Rattle.std.specs.Prelude.{◌≡◌, ℕ, ◌<◌, ◌≤◌, Bool, true, false, not, ◌&&◌, ◌||◌, nat_eq, nat_lt, List, length, map, slice_get, slice_index_or, Option, Some, All}
use Rattle.std.specs.List.{list_any, find, position_or_len, range_with_len}
use Rattle.std.specs.Option.{option_map}
use Rattle.px_core.specs.Plan.{Site}
use Rattle.px_assign.specs.Conflicts.{variable_of, priority_of}
use Rattle.px_assign.specs.declared.order.Writer.{Writer}

-- the variable that each node writes, by its first cell, or none
abbrev pub variables_of : List Site → List (Option ℕ)
variables_of plan = map (variable_of plan) (range_with_len 0 (length plan))

-- it says of a node of the plan what it writes, and its priority number
pub record IsWriter (plan : List Site) (writer : Writer) : Type 0 where
  pub within : writer.node < length plan
  pub variable : variable_of plan writer.node ≡ Some writer.variable
  pub priority : writer.priority ≡ priority_of plan writer.node

-- each is one, and each node before a number that writes a variable is among them
pub record AreSoFar (plan : List Site) (writers : List Writer) (count : ℕ) : Type 0 where
  pub each : All (IsWriter plan) writers
  pub all : (node variable : ℕ) → node < count → variable_of plan node ≡ Some variable
      → list_any (λ (writer : Writer). nat_eq node writer.node) writers ≡ true

-- and each of the plan
abbrev pub AreWriters : List Site → List Writer → Type 0
AreWriters plan writers = AreSoFar plan writers (length plan)

-- by variable, then by priority number, then by place
abbrev pub stands_before : Writer → Writer → Bool
stands_before a b =
    nat_lt a.variable b.variable
    || (nat_eq a.variable b.variable
    && (nat_lt a.priority b.priority || (nat_eq a.priority b.priority && nat_lt a.node b.node)))

-- none stands behind one that it is to stand before
abbrev pub IsOrdered : List Writer → Type 0
IsOrdered writers = (i j : ℕ) (d : Writer) → i ≤ j → j < length writers
    → stands_before (slice_index_or writers j d) (slice_index_or writers i d) ≡ false

-- the writers of all variables, in their order
pub record AreInOrder (plan : List Site) (writers : List Writer) : Type 0 where
  pub whole : AreWriters plan writers
  pub order : IsOrdered writers

-- it is a writer of this variable, and wants it
abbrev pub is_wanting : (ℕ → Bool) → ℕ → Writer → Bool
is_wanting wants variable writer = nat_eq writer.variable variable && wants writer.node

-- the first of the variable's writers that wants it
abbrev pub first_wanting : (ℕ → Bool) → List Writer → ℕ → Option ℕ
first_wanting wants writers variable =
    option_map (λ (writer : Writer). writer.node) (find (is_wanting wants variable) writers)

-- and its place, or behind all where none does
abbrev pub place_wanting : (ℕ → Bool) → List Writer → ℕ → ℕ
place_wanting wants writers variable = position_or_len (is_wanting wants variable) writers

-- the writer at a variable's place
abbrev pub first_at : List ℕ → List Writer → ℕ → Option ℕ
first_at places writers variable =
    option_map (λ (writer : Writer). writer.node) (slice_get writers (slice_index_or places variable (length writers)))

-- all that want but one node
abbrev pub but_for : ℕ → (ℕ → Bool) → ℕ → Bool
but_for node wants other = wants other && not (nat_eq other node)

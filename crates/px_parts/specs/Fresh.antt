-- The cells of a plan that has not begun.
use Rattle.std.specs.Prelude.{◌≡◌, ℕ, false, List, [], ◌∷◌, ◌++◌, replicate, take, length, IsNone}
use Rattle.std.specs.List.{repeat}
use Rattle.px_value.specs.declared.enums.NodeState.TheVariants.{Inactive}
use Rattle.px_value.specs.declared.value.Value.{Value}
use Rattle.px_value.specs.declared.value.Value.TheVariants as values
use Rattle.px_cells.specs.Marked.{Contents}
use Rattle.px_core.specs.Plan.{Site}
use Rattle.px_flat.specs.Layout.{variable_cells, all_cells}

-- the cells of a node that has not begun: its state, outcome, failure, handle and acknowledgement
abbrev pub at_rest : List Value
at_rest = values.State Inactive ∷ values.Unknown ∷ values.Unknown ∷ values.Unknown ∷ values.Boolean false ∷ []

-- those of so many nodes
abbrev pub all_at_rest : ℕ → List Value
all_at_rest nodes = repeat nodes at_rest

-- no variable has a value
abbrev pub first_cells : List Site → List Value
first_cells plan = replicate (variable_cells plan) values.Unknown ++ all_at_rest (length plan)

-- so many of the cells are those, and no mark stands
pub record AreFreshUpTo (plan : List Site) (count : ℕ) (cells : Contents Value) : Type 0 where
  pub long : length cells.values ≡ all_cells plan
  pub front : take count cells.values ≡ take count (first_cells plan)
  pub unmarked : IsNone cells.marked

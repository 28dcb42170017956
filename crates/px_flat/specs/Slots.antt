-- Where the variables of each node stand, and their types.
use Rattle.std.specs.Prelude.{◌≡◌, ℕ, ◌+◌, ◌<◌, List, [], ◌∷◌, length, slice_index_or}
use Rattle.px_core.specs.Fit.{cells_of}
use Rattle.px_core.specs.Plan.{Site, VariableData}
use Rattle.px_flat.specs.declared.slots.Slot.{Slot}
use Rattle.px_flat.specs.Layout.{Place, first_cell}
use Rattle.px_flat.specs.Row.{site_in}

-- the cells of a slot
abbrev pub place_data : Slot → Place
place_data slot = record { first = slot.first; size = slot.size }

-- the slot of a variable that stands at a cell
abbrev pub slot_at : ℕ → VariableData → Slot
slot_at cell variable = record { first = cell; size = cells_of variable; kind = variable.kind }

-- the slots of variables, which stand one after another from a cell on, with their names
abbrev pub slots_from : ℕ → List VariableData → List (List ℕ × Slot)
slots_from cell [] = []
slots_from cell (variable ∷ variables) =
    (variable.name, slot_at cell variable) ∷ slots_from (cell + cells_of variable) variables

-- these are the slots of each of a plan's nodes
pub record AreSlots (plan : List Site) (slots : List (List (List ℕ × Slot))) : Type 0 where
  pub long : length slots ≡ length plan
  pub each : (node : ℕ) (d : List (List ℕ × Slot)) → node < length plan
      → slice_index_or slots node d ≡ slots_from (first_cell plan node) (site_in plan node).head.variables

-- The layout of cells: first the plan's variables in preorder, then five cells for each node.
use Rattle.std.specs.Prelude.{ℕ, ◌+◌, ◌*◌, List, [], ◌∷◌, map, sum, take, length, Option, Some, None, if◌then◌else◌}
use Rattle.std.specs.Option.{option_and_then}
use Rattle.px_core.specs.Fit.{cells_of, cells_of_site}
use Rattle.px_core.specs.Plan.{Site, VariableData, is_same}
use Rattle.px_flat.specs.Row.{site_in, number_at}

-- the variable cells of all nodes
abbrev pub variable_cells : List Site → ℕ
variable_cells plan = sum (map cells_of_site plan)

-- the first variable cell of a node, behind those of the nodes before it
abbrev pub first_cell : List Site → ℕ → ℕ
first_cell plan node = variable_cells (take node plan)

-- where a variable stands: its first cell, and how many it has
pub record Place : Type 0 where
  pub first : ℕ
  pub size : ℕ

-- the place of the variable of this name among these, which stand one after another from a cell on
abbrev pub place_from : ℕ → List VariableData → List ℕ → Option Place
place_from cell [] name = None
place_from cell (variable ∷ variables) name =
    if is_same variable.name name then Some (record { first = cell; size = cells_of variable })
    else place_from (cell + cells_of variable) variables name

-- the place of the variable that a node declares
abbrev pub place_at : List Site → List ℕ → List ℕ → Option Place
place_at plan owner name =
    option_and_then (λ node. place_from (first_cell plan node) (site_in plan node).head.variables name)
    (number_at plan owner)

-- how many cells a node has beside its variables
abbrev pub node_cells : ℕ
node_cells = 5

abbrev pub node_cell : List Site → ℕ → ℕ
node_cell plan node = variable_cells plan + node_cells * node

abbrev pub state_cell : List Site → ℕ → ℕ
state_cell plan node = node_cell plan node

abbrev pub outcome_cell : List Site → ℕ → ℕ
outcome_cell plan node = node_cell plan node + 1

abbrev pub failure_cell : List Site → ℕ → ℕ
failure_cell plan node = node_cell plan node + 2

abbrev pub handle_cell : List Site → ℕ → ℕ
handle_cell plan node = node_cell plan node + 3

abbrev pub acknowledgement_cell : List Site → ℕ → ℕ
acknowledgement_cell plan node = node_cell plan node + 4

-- all cells
abbrev pub all_cells : List Site → ℕ
all_cells plan = node_cell plan (length plan)

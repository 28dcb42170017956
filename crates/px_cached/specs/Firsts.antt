-- From a cell to the source that has it.
use Rattle.std.specs.Prelude.{ℕ, ◌+◌, ◌<◌, ◌≤◌, List, [], ◌∷◌, ◌++◌, replicate, slice_get}
use Rattle.std.specs.List.{flat_map}
use Rattle.std.specs.Option.{unwrap_or}
use Rattle.px_core.specs.Fit.{cells_of}
use Rattle.px_core.specs.Plan.{Site, VariableData}
use Rattle.px_flat.specs.Sources.{Source, Cells, Reports}

-- a source has this cell
abbrev pub HasCell : Source → ℕ → Type 0
HasCell (Cells first size) cell = (first ≤ cell) × (cell < first + size)
HasCell (Reports lookup tolerance) cell = ⊥

-- of variables that stand one after another from a cell on: for each of their cells the first of its variable's
abbrev pub firsts_from : ℕ → List VariableData → List ℕ
firsts_from cell [] = []
firsts_from cell (variable ∷ variables) =
    replicate (cells_of variable) cell ++ firsts_from (cell + cells_of variable) variables

-- of all variables of a plan
abbrev pub variables_of : List Site → List VariableData
variables_of plan = flat_map (λ site. site.head.variables) plan

abbrev pub firsts_of : List Site → List ℕ
firsts_of plan = firsts_from 0 (variables_of plan)

-- the source of a cell, by its first cell: a variable's first, and what is behind all variables stands for itself
abbrev pub source_of : List Site → ℕ → ℕ
source_of plan cell = unwrap_or (slice_get (firsts_of plan) cell) cell

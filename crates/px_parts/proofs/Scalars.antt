-- The scalars of a node, and where each stands.
use Rattle.std.proofs.Common.{◌≡◌, ℕ, ◌+◌, ◌≤◌, List, map, sum, drop}
use Rattle.px_core.specs.declared.variable.Variable.{Variable}
use Rattle.px_core.specs.Fit.{cells_of}
use Rattle.px_core.specs.Plan.{VariableData, variable_data}
use Rattle.px_parts.specs.Readings.{scalar_from}

-- the variables from a place on
abbrev behind : List Variable → ℕ → List VariableData
behind variables at = map variable_data (drop at variables)

-- none of the variables before a place has the name, and a cell is the first of those from there on
pub record AreSought (variables : List Variable) (first : ℕ) (name : List ℕ) (at cell : ℕ) : Type 0 where
  pub same : scalar_from cell (behind variables at) name ≡ scalar_from first (map variable_data variables) name
  pub bound : cell + sum (map cells_of (behind variables at)) ≤ 131072

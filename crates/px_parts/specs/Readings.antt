-- The scalars of a node: where they stand, and the Integers that they hold.
use Rattle.std.specs.Prelude.{ℕ, ℤ, ◌+◌, List, [], ◌∷◌, Option, Some, None, is_some, if◌then◌else◌}
use Rattle.px_value.specs.declared.value.Value.{Value}
use Rattle.px_value.specs.declared.value.Value.TheVariants as values
use Rattle.px_core.specs.Fit.{cells_of}
use Rattle.px_core.specs.Plan.{VariableData, is_same}

-- the cell of the scalar of this name among variables that stand one after another from a cell on
abbrev pub scalar_from : ℕ → List VariableData → List ℕ → Option ℕ
scalar_from cell [] name = None
scalar_from cell (variable ∷ variables) name =
    if is_same variable.name name then (if is_some variable.size then None else Some cell)
    else scalar_from (cell + cells_of variable) variables name

-- the Integer that a value is
abbrev pub integer_in : Value → Option ℤ
integer_in (values.Integer number) = Some number
integer_in value = None

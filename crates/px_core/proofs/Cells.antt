-- How many cells a variable has.
use Rattle.std.proofs.Common.{◌≡◌, ◌≤◌, true, length, refl}
use Rattle.std.specs.Prelude.{nat_le}
use Rattle.std.specs.Option.{unwrap_or}
use Rattle.std.proofs.lemmas.Bool.{and_parts, leb-true}
use Rattle.px_core.specs.Fit.{cells_of, has_right_size, has_right_cells}
use Rattle.px_core.specs.Plan.{VariableData}

pub cells_are : (variable : VariableData) → cells_of variable ≡ unwrap_or variable.size 1
cells_are variable = refl

-- its initial values are no more
pub few_initials : (variable : VariableData) → has_right_cells variable ≡ true → length variable.init ≤ cells_of variable
few_initials variable right =
    leb-true (length variable.init) (cells_of variable)
    (and_parts (has_right_size variable.size) (nat_le (length variable.init) (cells_of variable)) right).1

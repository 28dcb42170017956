-- Which types arguments may have.
use Rattle.std.specs.Prelude.{List, [], ◌∷◌}
use Rattle.px_syntax.specs.declared.value_type.ValueType.{ValueType}
use Rattle.px_syntax.specs.ValueType.{told_types, allowed_as}

-- what the first of the arguments that are left may be, by the types of the parameters that are left
abbrev pub allowed_next : List ValueType → List ValueType
allowed_next [] = told_types
allowed_next (parameter ∷ parameters) = allowed_as parameter

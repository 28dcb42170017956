-- What is visible at a place.
use Rattle.std.specs.Prelude.{ℕ, ◌-◌, List, ◌++◌, map, drop, length}
use Rattle.px_syntax.specs.Scope.{Scope, Visible}
use Rattle.px_check.specs.declared.scope.VariableType.{VariableType}

abbrev pub visibles : List (List ℕ × VariableType) → List Visible
visibles = map (λ named. record { name = named.0; of_type = named.1.of_type; is_array = named.1.is_array })

abbrev pub type_seen : Visible → VariableType
type_seen variable = record { of_type = variable.of_type; is_array = variable.is_array }

-- the place round this one, where so many nodes and variables are seen
abbrev pub outside : ℕ → ℕ → Scope → Scope
outside nodes variables scope = record {
  commands = scope.commands;
  lookups = scope.lookups;
  variables = drop (length scope.variables - variables) scope.variables;
  nodes = drop (length scope.nodes - nodes) scope.nodes;
}

-- the scope with further variables, nearest
abbrev pub with_variables : List Visible → Scope → Scope
with_variables variables scope = record {
  commands = scope.commands;
  lookups = scope.lookups;
  variables = variables ++ scope.variables;
  nodes = scope.nodes;
}

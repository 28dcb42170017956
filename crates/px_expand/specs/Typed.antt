-- Initial values of the types of their variables.
use Rattle.std.specs.Prelude.{Bool, true, false}
use Rattle.std.specs.List.{list_all}
use Rattle.px_value.specs.declared.value.Value.{Value}
use Rattle.px_value.specs.declared.value.Value.TheVariants as values
use Rattle.px_core.specs.declared.variable.VarKind.{VarKind}
use Rattle.px_core.specs.declared.variable.VarKind.TheVariants as kinds
use Rattle.px_core.specs.Plan.{VariableData, Tree, sites}

abbrev pub is_of_kind : VarKind → Value → Bool
is_of_kind kinds.Boolean (values.Boolean truth) = true
is_of_kind kinds.Integer (values.Integer number) = true
is_of_kind kinds.Text (values.Text content) = true
is_of_kind kind value = false

abbrev pub is_typed : VariableData → Bool
is_typed variable = list_all (is_of_kind variable.kind) variable.init

-- each initial value of a plan is of its variable's type
abbrev pub has_typed_values : Tree → Bool
has_typed_values tree = list_all (λ site. list_all is_typed site.head.variables) (sites tree)

-- What the items of a block give: conditions, the priority and variables.
use Rattle.std.specs.Prelude.{ℕ, List, [], ◌∷◌, map, Option, Some, None, if◌then◌else◌}
use Rattle.std.specs.List.{flat_map}
use Rattle.std.specs.Option.{option_map_or}
use denote.Enum.Bare.{sameb}
use Rattle.px_value.specs.declared.value.Value.{Value}
use Rattle.px_syntax.specs.contracts.word.Condition.{the_type as condition_type}
use Rattle.px_syntax.specs.declared.word.Condition.{Condition}
use Rattle.px_syntax.specs.declared.word.TypeName.{TypeName}
use Rattle.px_syntax.specs.declared.word.TypeName.TheVariants as types
use Rattle.px_syntax.specs.Block.{ItemData, Variables, Conditions, Priority, InitialData, Value as Written, Listed}
use Rattle.px_syntax.specs.Block as text
use Rattle.px_core.specs.Defaults.{default_priority}
use Rattle.px_core.specs.declared.variable.VarKind.{VarKind}
use Rattle.px_core.specs.declared.variable.VarKind.TheVariants as kinds
use Rattle.px_core.specs.Expr.{Term}
use Rattle.px_core.specs.Plan.{VariableData}
use Rattle.px_scope.specs.Resolving.{literal_value, resolved}
use Rattle.px_scope.specs.Scope.{Scope}

-- ---- conditions

-- the term of a condition, in the scope inside the block; a tree without faults gives each condition once at most
abbrev pub given_for : Scope → Condition → List ItemData → Option Term
given_for scope condition [] = None
given_for scope condition (Conditions given token test ∷ items) =
    if sameb condition_type given condition then Some (resolved scope test) else given_for scope condition items
given_for scope condition (item ∷ items) = given_for scope condition items

-- ---- the priority

abbrev pub priority_of : List ItemData → ℕ
priority_of [] = default_priority
priority_of (Priority token priority ∷ items) = priority
priority_of (item ∷ items) = priority_of items

-- ---- variables

abbrev pub var_kind : TypeName → VarKind
var_kind types.Integer = kinds.Integer
var_kind types.Boolean = kinds.Boolean
var_kind types.String = kinds.Text

-- the values at first: of a scalar one, of an array those that are listed
abbrev pub first_values : InitialData → List Value
first_values (Written value token) = literal_value value ∷ []
first_values (Listed values token) = map (λ listed. literal_value listed.value) values

abbrev pub variable_of : TypeName → text.VariableData → VariableData
variable_of of_type variable = record {
  name = variable.name.name;
  kind = var_kind of_type;
  size = variable.size;
  init = option_map_or first_values variable.initial [];
}

-- the variables of a block in the order of the text
abbrev pub variables_in : ItemData → List VariableData
variables_in (Variables of_type variables) = map (variable_of of_type) variables
variables_in item = []

abbrev pub variables_of : List ItemData → List VariableData
variables_of = flat_map variables_in

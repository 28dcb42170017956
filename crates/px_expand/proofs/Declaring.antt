-- The variables of a block without faults: they differ in name, and each has a right size and values of its type.
use Rattle.std.proofs.Common.{◌≡◌, ℕ, true, false, ◌&&◌, ◌||◌, List, [], ◌∷◌, ◌++◌, map, length, Option, Some, None, refl, sym, ap, ◌∙◌}
use Rattle.std.specs.Prelude.{nat_lt, nat_le}
use Rattle.std.specs.List.{list_all, flat_map}
use Rattle.std.proofs.lemmas.Bool.{and_from, or_parts, ltb-false, le-leb}
use Rattle.std.proofs.lemmas.List.{length-map, map-append}
use Rattle.std.proofs.lemmas.List.Folds.{list_all-append}
use Rattle.std.proofs.lemmas.Simd.{map-map}
use Rattle.px_value.proofs.General.{neither}
use Rattle.px_syntax.specs.declared.block.ListedLiteral.{ListedLiteral}
use Rattle.px_syntax.specs.declared.expr.Identifier.{Identifier}
use Rattle.px_syntax.specs.declared.expr.Literal.{Literal as LiteralValue}
use Rattle.px_syntax.specs.declared.expr.Literal.TheVariants as literals
use Rattle.px_syntax.specs.declared.fault.FaultKind.TheVariants.{TooLarge, TypeDiffers, DoubleCondition}
use Rattle.px_syntax.specs.declared.word.TypeName.{TypeName}
use Rattle.px_syntax.specs.declared.word.TypeName.TheVariants as types
use Rattle.px_syntax.specs.Block as text
use Rattle.px_syntax.specs.Block.{ItemData, Variables, Conditions, Priority, InitialData, Value, Listed}
use Rattle.px_syntax.specs.BlockFaults.{redeclared, repeated, is_same_once, once_in, literal_fault, initial_faults, is_too_large, variable_faults, identifiers_in, item_faults, items_faults}
use Rattle.px_syntax.specs.Fault.{fault_at, fault_where}
use Rattle.px_syntax.specs.Scope as seen
use Rattle.px_syntax.specs.ValueType.{named_type}
use Rattle.px_core.specs.Fit.{all_differ, has_right_cells}
use Rattle.px_core.specs.Plan.{VariableData}
use Rattle.px_scope.specs.Items.{var_kind, variable_of, variables_in, variables_of}
use Rattle.px_scope.specs.Resolving.{literal_value}
use Rattle.px_expand.specs.Typed.{is_of_kind, is_typed}
use Rattle.px_expand.proofs.Apart.{names, all_apart}
use Rattle.px_expand.proofs.Faultless.{all_pass, where_none}

-- ---- one variable

literal_typed : (of_type : TypeName) (value : LiteralValue) (token : ℕ)
    → literal_fault (named_type of_type) value token ≡ [] → is_of_kind (var_kind of_type) (literal_value value) ≡ true
literal_typed types.Integer (literals.Integer number) token none = refl
literal_typed types.Integer (literals.Boolean truth) token none = cc
literal_typed types.Integer (literals.Text content) token none = cc
literal_typed types.Boolean (literals.Integer number) token none = cc
literal_typed types.Boolean (literals.Boolean truth) token none = refl
literal_typed types.Boolean (literals.Text content) token none = cc
literal_typed types.String (literals.Integer number) token none = cc
literal_typed types.String (literals.Boolean truth) token none = cc
literal_typed types.String (literals.Text content) token none = refl

listed_typed : (of_type : TypeName) (values : List ListedLiteral)
    → flat_map (λ listed. literal_fault (named_type of_type) listed.value listed.token) values ≡ []
    → list_all (is_of_kind (var_kind of_type)) (map (λ listed. literal_value listed.value) values) ≡ true
listed_typed of_type =
    all_pass (λ (listed : ListedLiteral). literal_fault (named_type of_type) listed.value listed.token)
    (λ (listed : ListedLiteral). literal_value listed.value) (is_of_kind (var_kind of_type))
    (λ listed. literal_typed of_type listed.value listed.token)

-- a variable has a right size and as many values at most as cells, which are of its type
record IsRight (variable : VariableData) : Type 0 where
  pub cells : has_right_cells variable ≡ true
  pub values : is_typed variable ≡ true

size_right : (size values : ℕ) → (nat_lt size 1 || nat_lt 256 size || nat_lt size values) ≡ false
    → ((nat_le 1 size && nat_le size 256) && nat_le values size) ≡ true
size_right size values right =
    let parts = or_parts _ _ right in
    let sizes = or_parts (nat_lt size 1) (nat_lt 256 size) parts.0 in
    and_from _ _
    (and_from _ _ (le-leb 1 size (ltb-false size 1 sizes.0)) (le-leb size 256 (ltb-false 256 size sizes.1)))
    (le-leb values size (ltb-false size values parts.1))

abbrev of_parts : Identifier → Option ℕ → Option InitialData → text.VariableData
of_parts name size initial = record { name = name; size = size; initial = initial }

parts_right : (of_type : TypeName) (name : Identifier) (size : Option ℕ) (initial : Option InitialData)
    → variable_faults (named_type of_type) (of_parts name size initial) ≡ []
    → IsRight (variable_of of_type (of_parts name size initial))
parts_right of_type name None None none = record { cells = refl; values = refl }
parts_right of_type name None (Some (Value value token)) none =
    record { cells = refl; values = and_from _ _ (literal_typed of_type value token none) refl }
parts_right of_type name None (Some (Listed values token)) none = cc
parts_right of_type name (Some size) None none =
    let variable = of_parts name (Some size) None in
    let parts = neither (fault_where (is_too_large variable) TooLarge name.token) [] none in
    record { cells = size_right size 0 (where_none (is_too_large variable) TooLarge name.token parts.0); values = refl }
parts_right of_type name (Some size) (Some (Value value token)) none =
    let variable = of_parts name (Some size) (Some (Value value token)) in
    let parts = neither (fault_where (is_too_large variable) TooLarge name.token) (fault_at TypeDiffers token) none in
    let impossible = parts.1 in
    cc
parts_right of_type name (Some size) (Some (Listed values token)) none =
    let variable = of_parts name (Some size) (Some (Listed values token)) in
    let parts = neither (fault_where (is_too_large variable) TooLarge name.token)
    (initial_faults (named_type of_type) true (Listed values token)) none in
    let right = where_none (is_too_large variable) TooLarge name.token parts.0 in
    record {
      cells =
          ap (λ count. (nat_le 1 size && nat_le size 256) && nat_le count size) (length-map values (λ (listed : ListedLiteral). literal_value listed.value))
          ∙ size_right size (length values) right;
      values = listed_typed of_type values parts.1;
    }

variable_right : (of_type : TypeName) (variable : text.VariableData)
    → variable_faults (named_type of_type) variable ≡ [] → IsRight (variable_of of_type variable)
variable_right of_type variable none = parts_right of_type variable.name variable.size variable.initial none

-- ---- the variables of items

-- variables differ in name, and each is right
pub record IsDeclared (variables : List VariableData) : Type 0 where
  pub differ : all_differ (map (λ variable. variable.name) variables) ≡ true
  pub cells : list_all has_right_cells variables ≡ true
  pub values : list_all is_typed variables ≡ true

record AreRight (variables : List VariableData) : Type 0 where
  pub cells : list_all has_right_cells variables ≡ true
  pub values : list_all is_typed variables ≡ true

both_right : (front back : List VariableData) → AreRight front → AreRight back → AreRight (front ++ back)
both_right front back first rest = record {
  cells = list_all-append has_right_cells front back ∙ and_from _ _ first.cells rest.cells;
  values = list_all-append is_typed front back ∙ and_from _ _ first.values rest.values;
}

variables_right : (of_type : TypeName) (variables : List text.VariableData)
    → flat_map (variable_faults (named_type of_type)) variables ≡ [] → AreRight (map (variable_of of_type) variables)
variables_right of_type variables none = record {
  cells =
      all_pass (variable_faults (named_type of_type)) (variable_of of_type) has_right_cells
      (λ variable none. (variable_right of_type variable none).cells) variables none;
  values =
      all_pass (variable_faults (named_type of_type)) (variable_of of_type) is_typed
      (λ variable none. (variable_right of_type variable none).values) variables none;
}

item_right : (scope : seen.Scope) (item : ItemData) → item_faults scope item ≡ [] → AreRight (variables_in item)
item_right scope (Variables of_type variables) none = variables_right of_type variables none
item_right scope (Conditions condition token test) none = record { cells = refl; values = refl }
item_right scope (Priority token priority) none = record { cells = refl; values = refl }

items_right : (scope : seen.Scope) (items : List ItemData) → flat_map (item_faults scope) items ≡ []
    → AreRight (variables_of items)
items_right scope [] none = record { cells = refl; values = refl }
items_right scope (item ∷ items) none =
    let parts = neither (item_faults scope item) _ none in
    both_right (variables_in item) (variables_of items) (item_right scope item parts.0) (items_right scope items parts.1)

abbrev pub names_of_variables : List VariableData → List (List ℕ)
names_of_variables = map (λ variable. variable.name)

named_as_text : (of_type : TypeName) (variables : List text.VariableData)
    → names_of_variables (map (variable_of of_type) variables) ≡ names (map (λ variable. variable.name) variables)
named_as_text of_type variables =
    map-map (λ (variable : VariableData). variable.name) (variable_of of_type) variables
    ∙ sym (map-map (λ (identifier : Identifier). identifier.name) (λ (variable : text.VariableData). variable.name) variables)

item_names : (item : ItemData) → names_of_variables (variables_in item) ≡ names (identifiers_in item)
item_names (Variables of_type variables) = named_as_text of_type variables
item_names (Conditions condition token test) = refl
item_names (Priority token priority) = refl

items_names : (items : List ItemData) → names_of_variables (variables_of items) ≡ names (flat_map identifiers_in items)
items_names [] = refl
items_names (item ∷ items) =
    map-append (λ variable. variable.name) (variables_in item) (variables_of items)
    ∙ ap (λ front. front ++ names_of_variables (variables_of items)) (item_names item)
    ∙ ap (λ back. names (identifiers_in item) ++ back) (items_names items)
    ∙ sym (map-append (λ identifier. identifier.name) (identifiers_in item) (flat_map identifiers_in items))

pub items_declared : (scope : seen.Scope) (items : List ItemData) → items_faults scope items ≡ []
    → IsDeclared (variables_of items)
items_declared scope items none =
    let once = repeated is_same_once DoubleCondition [] (flat_map once_in items) in
    let parts = neither (redeclared (flat_map identifiers_in items) ++ once) (flat_map (item_faults scope) items) none in
    let front = neither (redeclared (flat_map identifiers_in items)) once parts.0 in
    let right = items_right scope items parts.1 in
    record {
      differ = ap all_differ (items_names items) ∙ all_apart (flat_map identifiers_in items) front.0;
      cells = right.cells;
      values = right.values;
    }

-- the faults of each item alone
pub each_item_none : (scope : seen.Scope) (items : List ItemData) → items_faults scope items ≡ []
    → flat_map (item_faults scope) items ≡ []
each_item_none scope items none =
    (neither (redeclared (flat_map identifiers_in items) ++ repeated is_same_once DoubleCondition [] (flat_map once_in items))
    (flat_map (item_faults scope) items) none).1

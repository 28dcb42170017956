-- Initial values that are of the types of their variables, and no more than their cells, suit them.
use Rattle.std.proofs.Common.{◌≡◌, true, List, slice_index_or, refl, IsTrue}
use Rattle.std.specs.List.{All, list_all}
use Rattle.std.proofs.lemmas.List.Sums.{AllPass-from_list_all}
use Rattle.px_value.specs.declared.value.Value.{Value}
use Rattle.px_value.specs.declared.value.Value.TheVariants as values
use Rattle.px_core.specs.declared.variable.VarKind.{VarKind}
use Rattle.px_core.specs.declared.variable.VarKind.TheVariants as kinds
use Rattle.px_core.specs.Fit.{has_right_cells, has_right_variables}
use Rattle.px_core.specs.Plan.{VariableData, Tree, sites}
use Rattle.px_core.proofs.Cells.{few_initials}
use Rattle.px_expand.specs.Typed.{is_of_kind, is_typed, has_typed_values}
use Rattle.px_typed.specs.Typing.{suits, HasInitials, InitialsSuit}

value_suits : (kind : VarKind) (value : Value) → is_of_kind kind value ≡ true → suits kind value ≡ true
value_suits kinds.Boolean (values.Boolean truth) is = refl
value_suits kinds.Integer (values.Integer number) is = refl
value_suits kinds.Text (values.Text text) is = refl
value_suits kind value is = absurd (cc)

variables_suit :
    (variables : List VariableData) → list_all is_typed variables ≡ true → IsTrue (list_all has_right_cells variables) → All HasInitials variables
variables_suit variables typed right = λ k d within.
    let variable = slice_index_or variables k d in
    let own : is_typed variable ≡ true = AllPass-from_list_all is_typed variables typed k d within in record {
      few = few_initials variable (AllPass-from_list_all has_right_cells variables right k d within);
      suit = λ i e inside.
          value_suits variable.kind (slice_index_or variable.init i e)
          (AllPass-from_list_all (is_of_kind variable.kind) variable.init own i e inside);
    }

pub initials_suit : (tree : Tree) → has_typed_values tree ≡ true → IsTrue (list_all has_right_variables (sites tree)) → All InitialsSuit (sites tree)
initials_suit tree typed right = λ k d within.
    let site = slice_index_or (sites tree) k d in
    variables_suit site.head.variables
    (AllPass-from_list_all (λ site. list_all is_typed site.head.variables) (sites tree) typed k d within)
    (AllPass-from_list_all has_right_variables (sites tree) right k d within)

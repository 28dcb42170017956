-- The type of a target's variable, in numbers and in the plan.
use Rattle.std.proofs.Common.{◌≡◌, ℕ, ◌+◌, Bool, true, false, List, [], ◌∷◌, refl, Some, if◌then◌else◌, rules}
use Rattle.std.specs.List.{find}
use Rattle.px_value.specs.declared.value.Value.{Value}
use Rattle.px_core.specs.declared.variable.VarKind.TheVariants as kinds
use Rattle.px_core.specs.Fit.{cells_of}
use Rattle.px_core.specs.Plan.{Site, TargetData, VariableData, is_same}
use Rattle.px_sem.specs.Effects.{as_kind, taken_as}
use Rattle.px_flat.specs.Layout.{Place, place_from}
use Rattle.px_flat.specs.Numbered.{kind_of, kind_among}
use Rattle.px_flat.proofs.Known.{IsSound}
use Rattle.px_flat.proofs.Numbers.{number_is}
use Rattle.px_flat.proofs.Sites.{found_site}
use Rattle.px_flat.proofs.Variables.{IsDeclared}

-- a variable that has a place is found by its name
record IsFound (variables : List VariableData) (name : List ℕ) : Type 0 where
  variable : VariableData
  found : find (λ variable. is_same variable.name name) variables ≡ Some variable
  kind_is : kind_among variables name ≡ Some variable.kind

found_in : (cell : ℕ) (variables : List VariableData) (name : List ℕ) (place : Place)
    → place_from cell variables name ≡ Some place → IsFound variables name
found_in cell [] name place at = absurd (cc)
found_in cell (variable ∷ variables) name place at =
    by (is_same variable.name name) refl at (found_in (cell + cells_of variable) variables name place)
  where
    by : (same : Bool) → is_same variable.name name ≡ same
        → (if same then Some (record { first = cell; size = cells_of variable })
        else place_from (cell + cells_of variable) variables name) ≡ Some place
        → (place_from (cell + cells_of variable) variables name ≡ Some place → IsFound variables name)
        → IsFound (variable ∷ variables) name
    by true is at rest = record { variable = variable; found = rw is refl; kind_is = rw is refl }
    by false is at rest =
        let behind = rest at in
        record { variable = behind.variable; found = rw is behind.found; kind_is = rw is behind.kind_is }

-- a value is taken as the variable's number has it
pub taken_alike : (plan : List Site) (target : TargetData) (given : Value) → IsSound plan
    → IsDeclared plan target.owner target.name
    → taken_as plan target given ≡ as_kind (kind_of plan target.owner target.name) given
taken_alike plan target given sound declared = search (rules, found_in, found_site, number_is)

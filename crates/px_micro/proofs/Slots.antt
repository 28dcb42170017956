-- The variables of nodes, by their places: a cell belongs to one variable at most.
use Rattle.std.proofs.Common.{◌≡◌, ℕ, ◌+◌, Bool, true, false, not, ◌&&◌, List, [], ◌∷◌, map, take, drop, refl, ap, sym, ◌∙◌, Some, None, if◌then◌else◌}
use Rattle.std.specs.Cmp.Lexicographic.{same_text}
use Rattle.std.specs.List.{list_all, list_any, zip}
use Rattle.std.proofs.lemmas.Bool.{and_parts, not-true, or_parts}
use Rattle.std.proofs.lemmas.Cmp.{nat_list_eq_equiv}
use Rattle.std.proofs.lemmas.List.{drop-drop}
use Rattle.px_value.specs.declared.value.Value.{Value}
use Rattle.px_core.specs.Fit.{all_differ, cells_of, has_right_cells}
use Rattle.px_core.specs.Plan.{VariableData, is_same}
use Rattle.px_core.proofs.Paths.{same-self}
use Rattle.px_flat.specs.Layout.{Place, place_from}
use Rattle.px_flat.specs.Parts.{values_in}
use Rattle.px_flat.proofs.VariableValues.{HasPlace, has_place}

-- ---- the variables of one node

-- a name that has a place is one of them
named : (cell : ℕ) (variables : List VariableData) (name : List ℕ) (slot : Place) → place_from cell variables name ≡ Some slot
    → list_any (λ variable. is_same variable.name name && true) variables ≡ true
named cell [] name slot at = absurd (cc)
named cell (variable ∷ variables) name slot at =
    by (is_same variable.name name) refl at (named (cell + cells_of variable) variables name slot)
  where
    by : (b : Bool) → is_same variable.name name ≡ b
        → (if b then Some (record { first = cell; size = cells_of variable })
        else place_from (cell + cells_of variable) variables name) ≡ Some slot
        → (place_from (cell + cells_of variable) variables name ≡ Some slot
        → list_any (λ variable. is_same variable.name name && true) variables ≡ true)
        → list_any (λ variable. is_same variable.name name && true) (variable ∷ variables) ≡ true
    by true is at rest = rw is refl
    by false is at rest = rw is (rest at)

-- what is known of a place that was found
pub record IsSlot (cell : ℕ) (variables : List VariableData) (name : List ℕ) (slot : Place) : Type 0 where
  pub has : HasPlace cell variables name
  pub is : has.place ≡ slot

pub slot_has : (cell : ℕ) (variables : List VariableData) (name : List ℕ) (slot : Place)
    → list_all has_right_cells variables ≡ true → place_from cell variables name ≡ Some slot
    → IsSlot cell variables name slot
slot_has cell variables name slot right at =
    let has : HasPlace cell variables name =
    has_place (λ variable. true) cell variables name right (named cell variables name slot at) in
    record { has = has; is = cc (sym has.is ∙ at) }

-- a name that none of them has
absent : (cell : ℕ) (variables : List VariableData) (name : List ℕ)
    → list_any (is_same name) (map (λ variable. variable.name) variables) ≡ false → place_from cell variables name ≡ None
absent cell [] name none = refl
absent cell (variable ∷ variables) name none =
    let parts = or_parts (is_same name variable.name) (list_any (is_same name) (map (λ variable. variable.name) variables)) none in
    ap (λ b. if b then Some (record { first = cell; size = cells_of variable })
    else place_from (cell + cells_of variable) variables name)
    (nat_list_eq_equiv.symm variable.name name ∙ parts.0)
    ∙ absent (cell + cells_of variable) variables name parts.1

-- Where the values of each variable change by its name, so do those of all.
pub values_in-by : (variables : List VariableData) (from : ℕ) (a b : List Value) (change : List ℕ → List Value → List Value)
    → all_differ (map (λ variable. variable.name) variables) ≡ true
    → ((name : List ℕ) (slot : Place) → place_from from variables name ≡ Some slot
    → take slot.size (drop slot.first a) ≡ change name (take slot.size (drop slot.first b)))
    → values_in variables (drop from a)
    ≡ map (λ variable. change variable.0.name variable.1) (zip variables (values_in variables (drop from b)))
values_in-by [] from a b change differ each = refl
values_in-by (variable ∷ variables) from a b change differ each =
    λ i. head i ∷ (ap (values_in variables) (drop-drop size from a)
    ∙ values_in-by variables (from + size) a b change parts.1 rest
    ∙ ap (λ cells. map (λ variable. change variable.0.name variable.1) (zip variables (values_in variables cells)))
    (sym (drop-drop size from b))) i
  where
    size : ℕ
    size = cells_of variable

    parts : (not (list_any (is_same variable.name) (map (λ variable. variable.name) variables)) ≡ true)
        × (all_differ (map (λ variable. variable.name) variables) ≡ true)
    parts = and_parts (not (list_any (is_same variable.name) (map (λ variable. variable.name) variables)))
        (all_differ (map (λ variable. variable.name) variables)) differ

    own : Place
    own = record { first = from; size = size }

    head : take size (drop from a) ≡ change variable.name (take size (drop from b))
    head = each variable.name own
        (ap (λ b. if b then Some own else place_from (from + size) variables variable.name) (same-self variable.name))

    rest : (name : List ℕ) (slot : Place) → place_from (from + size) variables name ≡ Some slot
        → take slot.size (drop slot.first a) ≡ change name (take slot.size (drop slot.first b))
    rest name slot at = by (is_same variable.name name) refl
      where
        by : (same : Bool) → is_same variable.name name ≡ same
            → take slot.size (drop slot.first a) ≡ change name (take slot.size (drop slot.first b))
        by true is =
            let same : variable.name ≡ name = same_text variable.name name (sym is) in
            let none : place_from (from + size) variables name ≡ None =
            ap (place_from (from + size) variables) (sym same)
            ∙ absent (from + size) variables variable.name (not-true _ parts.0) in
            absurd (cc (sym none ∙ at))
        by false is =
            each name slot (ap (λ b. if b then Some own else place_from (from + size) variables name) is ∙ at)

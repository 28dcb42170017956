-- Slots one after another, and where they say that a variable stands.
use Rattle.std.proofs.Common.{◌≡◌, ℕ, zero, suc, ◌+◌, ◌<◌, true, false, not, List, [], ◌∷◌, ◌++◌, length, get_or, map, sum, take, refl, ap, sym, ◌∙◌, subst, arith, length-append, if◌then◌else◌, rules, Option, Some, None}
use Rattle.std.specs.List.{list_any, list_all}
use Rattle.std.specs.Map.{lookup}
use Rattle.std.specs.Option.{unwrap_or, option_and_then}
use Rattle.std.proofs.lemmas.Bool.{and_parts}
use Rattle.std.proofs.lemmas.List.Sums.{sum_by-cons, AllPass-from_list_all}
use Rattle.std.proofs.lemmas.List.{get_or-map, length-map}
use Rattle.indexmap.specs.IndexMap.{insert_entry}
use Rattle.px_core.specs.declared.variable.Variable.{Variable}
use Rattle.px_core.specs.Fit.{all_differ, cells_of, variables_differ}
use Rattle.px_core.specs.Plan.{Site, VariableData, variable_data, no_site, is_same}
use Rattle.px_flat.specs.declared.row.Row.{Row}
use Rattle.px_flat.specs.declared.row.Extent.{Extent}
use Rattle.px_flat.specs.declared.slots.Slot.{Slot}
use Rattle.px_flat.specs.Extents.{AreExtents}
use Rattle.px_flat.specs.FitPlan.{IsFitPlan}
use Rattle.px_flat.specs.Layout.{place_from, first_cell}
use Rattle.px_flat.specs.Numbered.{kind_among}
use Rattle.px_flat.specs.Row.{site_in}
use Rattle.px_flat.specs.Rows.{IsLaid, sites_of}
use Rattle.px_flat.specs.Slots.{place_data, slot_at, slots_from}
use Rattle.px_flat.proofs.Sites.{site_at_number}
use Rattle.px_flat.proofs.Sums.{sum_more}
use Rattle.px_flat.proofs.Trees.{each_put}
use Rattle.px_core.proofs.Cells.{cells_are}

-- ---- one after another

-- a name that is among others is not the one that differs from them
other_name : (name : List ℕ) (variables : List VariableData) (i : ℕ) (d : VariableData) → i < length variables
    → not (list_any (is_same name) (map (λ variable. variable.name) variables)) ≡ true
    → is_same (get_or variables i d).name name ≡ false
other_name name [] i d within none = absurd (omega arith)
other_name name (variable ∷ variables) i d within none = search (rules, other_name name variables)

-- one variable more is inserted behind the others
pub slots_more : (first i : ℕ) (variables : List VariableData) (d : VariableData) → i < length variables
    → all_differ (map (λ variable. variable.name) variables) ≡ true
    → insert_entry is_same (take i (slots_from first variables)) (get_or variables i d).name
    (slot_at (first + sum (map cells_of (take i variables))) (get_or variables i d))
    ≡ take (i + 1) (slots_from first variables)
slots_more first i [] d within differ = absurd (omega arith)
slots_more first zero (variable ∷ variables) d within differ =
    let here : first + 0 ≡ first = omega arith in
    ap (λ cell. (variable.name, slot_at cell variable) ∷ []) here
slots_more first (suc i) (variable ∷ variables) d within differ =
    let own = get_or variables i d in
    let tests = and_parts (not (list_any (is_same variable.name) (map (λ variable. variable.name) variables)))
    (all_differ (map (λ variable. variable.name) variables)) differ in
    let next : ℕ = first + cells_of variable in
    let far : first + sum (map cells_of (variable ∷ take i variables)) ≡ next + sum (map cells_of (take i variables)) =
    omega (arith, sum_by-cons (λ n. n) (cells_of variable) (map cells_of (take i variables))) in
    let more : suc (i + 1) ≡ suc i + 1 = omega arith in
    ap (λ b. if b then (variable.name, slot_at (first + sum (map cells_of (variable ∷ take i variables))) own) ∷ take i (slots_from next variables)
    else (variable.name, slot_at first variable) ∷ insert_entry is_same (take i (slots_from next variables)) own.name
    (slot_at (first + sum (map cells_of (variable ∷ take i variables))) own))
    (other_name variable.name variables i d (omega arith) tests.0)
    ∙ ap (λ cell. (variable.name, slot_at first variable) ∷ insert_entry is_same (take i (slots_from next variables)) own.name
    (slot_at cell own)) far
    ∙ ap (λ slots. (variable.name, slot_at first variable) ∷ slots)
    (slots_more next i variables d (omega arith) tests.1)
    ∙ ap (λ n. take n (slots_from first (variable ∷ variables))) more

pub length-slots_from : (first : ℕ) (variables : List VariableData) → length (slots_from first variables) ≡ length variables
length-slots_from first [] = refl
length-slots_from first (variable ∷ variables) = omega (arith, length-slots_from (first + cells_of variable) variables)

-- the next of variables, and the cells of those as far as it
pub record IsNext (variables : List Variable) (i : ℕ) (here : Variable) : Type 0 where
  pub within : i < length (map variable_data variables)
  pub is : get_or (map variable_data variables) i (variable_data here) ≡ variable_data here
  pub cells : sum (map cells_of (take (i + 1) (map variable_data variables)))
      ≡ sum (map cells_of (take i (map variable_data variables))) + unwrap_or here.size 1

pub next : (variables : List Variable) (i : ℕ) (here : Variable) → i < length variables → here ≡ get_or variables i here
    → IsNext variables i here
next variables i here below is_here =
    let all : List VariableData = map variable_data variables in
    let within : i < length all = omega (arith, length-map variables variable_data) in
    let is : get_or all i (variable_data here) ≡ variable_data here =
    get_or-map variable_data variables i here (variable_data here) below ∙ ap variable_data (sym is_here) in
    record {
      within = within;
      is = is;
      cells = omega (arith, sum_more cells_of all i (variable_data here) within, ap cells_of is, cells_are (variable_data here));
    }

-- ---- where a variable stands

place_in_slots : (cell : ℕ) (variables : List VariableData) (name : List ℕ) (none : Slot)
    → place_data (unwrap_or (lookup (is_same name) (slots_from cell variables)) none)
    ≡ unwrap_or (place_from cell variables name) (place_data none)
place_in_slots cell [] name none = refl
place_in_slots cell (variable ∷ variables) name none =
    search (rules, place_in_slots (cell + cells_of variable) variables name none)

kind_in_slots : (cell : ℕ) (variables : List VariableData) (name : List ℕ) (none : Slot)
    → (unwrap_or (lookup (is_same name) (slots_from cell variables)) none).kind
    ≡ unwrap_or (kind_among variables name) none.kind
kind_in_slots cell [] name none = refl
kind_in_slots cell (variable ∷ variables) name none =
    search (rules, kind_in_slots (cell + cells_of variable) variables name none)

-- the slot of the variable that a node declares
abbrev pub slot_in : List Site → List ℕ → Slot → Option ℕ → Slot
slot_in plan name none number = unwrap_or (option_and_then (λ node.
    lookup (is_same name) (slots_from (first_cell plan node) (site_in plan node).head.variables)) number) none

pub read_in_plan : (plan : List Site) (name : List ℕ) (none : Slot) (number : Option ℕ)
    → (place_data (slot_in plan name none number) ≡ unwrap_or (option_and_then (λ node.
    place_from (first_cell plan node) (site_in plan node).head.variables name) number) (place_data none))
    × ((slot_in plan name none number).kind ≡ unwrap_or (option_and_then (λ node.
    kind_among (site_in plan node).head.variables name) number) none.kind)
read_in_plan plan name none None = (refl, refl)
read_in_plan plan name none (Some node) = (
  place_in_slots (first_cell plan node) (site_in plan node).head.variables name none,
  kind_in_slots (first_cell plan node) (site_in plan node).head.variables name none,
)

-- ---- the slots of each node

-- the first nodes have their slots
pub record AreSlotted (plan : List Site) (slots : List (List (List ℕ × Slot))) (i : ℕ) : Type 0 where
  pub long : length slots ≡ i
  pub each : (node : ℕ) (d : List (List ℕ × Slot)) → node < length slots
      → get_or slots node d ≡ slots_from (first_cell plan node) (site_in plan node).head.variables

-- the variables of a row are those of its site
pub variables_at : (rows : List Row) → IsLaid rows → (i : ℕ) (d : Row) (variables : List Variable) → i < length rows
    → variables ≡ (get_or rows i d).head.variables.items
    → map variable_data variables ≡ (site_in (sites_of rows) i).head.variables
variables_at rows laid i d variables within is =
    ap (map variable_data) is ∙ sym (ap (λ site. site.head.variables) (site_at_number rows laid i no_site d within))

-- they differ in name
pub names_differ : (plan : List Site) → IsFitPlan plan → (node : ℕ) → node < length plan
    → variables_differ (site_in plan node) ≡ true
names_differ plan fit node within =
    AllPass-from_list_all variables_differ plan
    (subst (λ plan. list_all variables_differ plan ≡ true) (sym fit.nodes) fit.fit.variables) node no_site within

-- the first cell of a node, by its extent
pub first_at : (plan : List Site) (extents : List Extent) (i : ℕ) (d : Extent) → AreExtents plan extents → i < length plan
    → (get_or extents i d).first_cell ≡ first_cell plan i
first_at plan extents i d extended within = ap (λ extent. extent.first_cell) (extended.each i d within)

-- one node's slots more
pub slotted_more : (plan : List Site) (slots : List (List (List ℕ × Slot))) (more : List (List ℕ × Slot)) (i : ℕ)
    → AreSlotted plan slots i → more ≡ slots_from (first_cell plan i) (site_in plan i).head.variables
    → AreSlotted plan (slots ++ more ∷ []) (i + 1)
slotted_more plan slots more i so_far is = record {
  long = omega (arith, length-append slots (more ∷ []), so_far.long);
  each = each_put (λ node slots. slots ≡ slots_from (first_cell plan node) (site_in plan node).head.variables) slots more
      so_far.each
      (subst (λ n. more ≡ slots_from (first_cell plan n) (site_in plan n).head.variables) (sym so_far.long) is);
}

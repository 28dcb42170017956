-- The initial values of variables, cell by cell.
use Rattle.std.proofs.Common.{◌≡◌, ℕ, ◌+◌, ◌-◌, ◌<◌, ◌≤◌, true, List, [], ◌∷◌, ◌++◌, length, map, sum, get_or, take, append-nil, refl, ap, sym, ◌∙◌, subst, arith, length-append}
use Rattle.std.specs.List.{flat_map, list_all}
use Rattle.std.proofs.lemmas.Bool.{and_parts, cases_lt}
use Rattle.std.proofs.lemmas.Grind.{flat_map-append, common_steps}
use Rattle.std.proofs.lemmas.List.Sums.{AllPass-from_list_all, list_all-from_AllPass, sum_by-cons}
use Rattle.std.proofs.lemmas.List.Elements.{All-take}
use Rattle.std.proofs.lemmas.List.{take_more, get_or_past, length-take-le, get_or_append_left, get_or-append_right, get_or-replicate, length-replicate}
use Rattle.px_value.specs.declared.value.Value.{Value}
use Rattle.px_value.specs.declared.value.Value.TheVariants as values
use Rattle.px_core.proofs.Cells.{few_initials}
use Rattle.px_core.specs.declared.variable.Variable.{Variable}
use Rattle.px_core.specs.Fit.{cells_of, cells_of_site, has_right_cells, has_right_variables}
use Rattle.px_core.specs.Plan.{Site, Head, VariableData, no_site, variable_data}
use Rattle.px_sem.specs.Effects.{initial_values}
use Rattle.px_flat.specs.declared.row.Row.{Row}
use Rattle.px_flat.specs.Layout.{first_cell}
use Rattle.px_flat.specs.Numbered.{held}
use Rattle.px_flat.specs.Row.{site_in, IsRowOf}
use Rattle.px_flat.proofs.Known.{IsSound}
use Rattle.px_flat.proofs.Slotted.{next as next_item}
use Rattle.px_flat.proofs.Sums.{sum_more, sum_front}
use Rattle.px_flat.proofs.Variables.{cells_within}
use Rattle.px_micro.specs.Turns.{from_cell, initial_of}

-- values behind others go to the cells behind theirs
pub from_cell-append : (cell : ℕ) (some more : List Value)
    → from_cell cell (some ++ more) ≡ from_cell cell some ++ from_cell (cell + length some) more
from_cell-append cell [] more = ap (λ cell. from_cell cell more) (omega arith)
from_cell-append cell (value ∷ some) more = grind (arith, common_steps, from_cell-append (cell + 1) some more)

-- a value for each cell
pub as_many : (variable : VariableData) → has_right_cells variable ≡ true
    → length (initial_values variable) ≡ cells_of variable
as_many variable right = grind (arith, common_steps, few_initials, length-append, length-replicate)

-- the value of one cell
initial_at : (variable : VariableData) (k : ℕ) → has_right_cells variable ≡ true → k < cells_of variable
    → get_or (initial_values variable) k values.Unknown ≡ held variable.init k
initial_at variable k right within =
    grind (arith, common_steps, cases_lt, get_or_append_left, get_or-append_right, get_or-replicate, get_or_past)

-- one more cell
pub initial_more : (variable : VariableData) (first k : ℕ) → has_right_cells variable ≡ true → k < cells_of variable
    → from_cell first (take (k + 1) (initial_values variable))
    ≡ from_cell first (take k (initial_values variable)) ++ record { cell = first + k; value = held variable.init k } ∷ []
initial_more variable first k right within =
    grind (arith, common_steps, take_more, from_cell-append, initial_at, as_many, length-take-le)

-- of each variable as many values as cells
pub as_many_of_each : (variables : List VariableData) → list_all has_right_cells variables ≡ true
    → length (flat_map initial_values variables) ≡ sum (map cells_of variables)
as_many_of_each [] right = refl
as_many_of_each (variable ∷ variables) right =
    let parts = and_parts (has_right_cells variable) (list_all has_right_cells variables) right in
    length-append (initial_values variable) (flat_map initial_values variables)
    ∙ (λ i. as_many variable parts.0 i + as_many_of_each variables parts.1 i)
    ∙ sym (sum_by-cons (λ n. n) (cells_of variable) (map cells_of variables))

-- ---- the variables of a node, one after another

-- each is declared as the plan has it right
pub right_cells : (plan : List Site) (node : ℕ) → IsSound plan → node < length plan
    → list_all has_right_cells (site_in plan node).head.variables ≡ true
right_cells plan node sound within = AllPass-from_list_all has_right_variables plan sound.arrays node no_site within

-- as many initial values as cells
pub initial_cells : (plan : List Site) (node : ℕ) → IsSound plan → node < length plan
    → length (initial_of plan node) ≡ cells_of_site (site_in plan node)
initial_cells plan node sound within =
    as_many_of_each (site_in plan node).head.variables (right_cells plan node sound within)

list_all_front : (i : ℕ) (variables : List VariableData) → list_all has_right_cells variables ≡ true
    → list_all has_right_cells (take i variables) ≡ true
list_all_front i variables right =
    list_all-from_AllPass has_right_cells (take i variables)
    (All-take (λ variable. has_right_cells variable ≡ true) i variables (AllPass-from_list_all has_right_cells variables right))

-- this is the next variable of a node, whose first cell this is
pub record IsNext (plan : List Site) (node i cell : ℕ) (variable : VariableData) : Type 0 where
  pub within : i < length (site_in plan node).head.variables
  pub is : get_or (site_in plan node).head.variables i variable ≡ variable
  pub right : has_right_cells variable ≡ true
  pub small : cell + cells_of variable ≤ 131072

pub next_variable : (plan : List Site) (node i cell : ℕ) (row : Row) (items : List Variable) (item : Variable)
    → IsSound plan → node < length plan → IsRowOf plan node row → items ≡ row.head.variables.items → i < length items
    → item ≡ get_or items i item
    → cell ≡ first_cell plan node + sum (map cells_of (take i (site_in plan node).head.variables))
    → IsNext plan node i cell (variable_data item)
next_variable plan node i cell row items item sound here row_is items_are inside item_is cell_is = record {
  within = within;
  is = is;
  right = sym (ap has_right_cells is) ∙ AllPass-from_list_all has_right_cells own
      (right_cells plan node sound here) i (variable_data item) within;
  small = omega (
    arith,
    cell_is,
    sum_more cells_of own i (variable_data item) within,
    ap cells_of is,
    sum_front cells_of own (i + 1),
    cells_within plan node here,
    sound.cells,
  );
}
  where
    own : List VariableData
    own = (site_in plan node).head.variables

    are : map variable_data items ≡ own
    are = ap (map variable_data) items_are ∙ ap (λ (head : Head). head.variables) row_is.head

    within : i < length own
    within = subst (λ (own : List VariableData). i < length own) are (next_item items i item inside item_is).within

    is : get_or own i (variable_data item) ≡ variable_data item
    is = subst (λ (own : List VariableData). get_or own i (variable_data item) ≡ variable_data item) are
        (next_item items i item inside item_is).is

-- its cells are behind those of the variables before
pub next_cell : (plan : List Site) (node i cell : ℕ) (variable : VariableData) → IsNext plan node i cell variable
    → cell ≡ first_cell plan node + sum (map cells_of (take i (site_in plan node).head.variables))
    → cell + cells_of variable
    ≡ first_cell plan node + sum (map cells_of (take (i + 1) (site_in plan node).head.variables))
next_cell plan node i cell variable next is = grind (arith, common_steps, sum_more)

-- and so are its values
pub values_more : (plan : List Site) (node i cell : ℕ) (variable : VariableData) → IsSound plan → node < length plan
    → IsNext plan node i cell variable
    → cell ≡ first_cell plan node + sum (map cells_of (take i (site_in plan node).head.variables))
    → from_cell (first_cell plan node) (flat_map initial_values (take (i + 1) (site_in plan node).head.variables))
    ≡ from_cell (first_cell plan node) (flat_map initial_values (take i (site_in plan node).head.variables))
    ++ from_cell cell (initial_values variable)
values_more plan node i cell variable sound here next is =
    ap (λ some. from_cell first (flat_map initial_values some))
    (take_more own i variable next.within ∙ ap (λ last. take i own ++ last ∷ []) next.is)
    ∙ ap (from_cell first) (flat_map-append initial_values (take i own) (variable ∷ [])
    ∙ ap (λ more. before ++ more) (append-nil (initial_values variable)))
    ∙ from_cell-append first before (initial_values variable)
    ∙ ap (λ cell. from_cell first before ++ from_cell cell (initial_values variable)) (sym (is ∙ ap (λ n. first + n) (sym long)))
  where
    own : List VariableData
    own = (site_in plan node).head.variables

    first : ℕ
    first = first_cell plan node

    before : List Value
    before = flat_map initial_values (take i own)

    long : length before ≡ sum (map cells_of (take i own))
    long = as_many_of_each (take i own) (list_all_front i own (right_cells plan node sound here))

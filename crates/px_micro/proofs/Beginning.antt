-- The initial values of the nodes that begin to wait.
use Rattle.std.proofs.Common.{◌≡◌, ◌≢◌, ℕ, ◌+◌, ◌<◌, ◌≤◌, Bool, true, false, List, [], ◌∷◌, length, get_or, drop, fold, map, nat_eq, refl, ap, sym, ◌∙◌, subst, arith, Option, Some, None, All, AllPairs, if◌then◌else◌}
use Rattle.std.specs.List.{flat_map, find}
use Rattle.std.proofs.lemmas.Bool.{cond_both, eqb-true, eqb-false}
use Rattle.std.proofs.lemmas.List.Elements.{All-append, All-cons, All-head, All-nil, All-tail}
use Rattle.px_value.specs.declared.value.Value.{Value}
use Rattle.px_value.specs.declared.value.Value.TheVariants as values
use Rattle.px_value.proofs.General.{found_has}
use Rattle.px_core.specs.Fit.{cells_of_site}
use Rattle.px_core.specs.Plan.{Site, VariableData}
use Rattle.px_sem.specs.Effects.{initial_values}
use Rattle.px_flat.specs.Layout.{all_cells, first_cell, variable_cells}
use Rattle.px_flat.specs.Numbered.{held}
use Rattle.px_flat.specs.Parts.{values_in}
use Rattle.px_flat.specs.Row.{site_in}
use Rattle.px_flat.proofs.Changes.{values_in-same}
use Rattle.px_flat.proofs.Tables.{flat_sound}
use Rattle.px_flat.proofs.Variables.{cells_within, nodes_apart}
use Rattle.px_parts.specs.declared.parts.Parts.{Parts}
use Rattle.px_micro.specs.declared.sight.Going.{Going}
use Rattle.px_micro.specs.declared.turns.CellValue.{CellValue}
use Rattle.px_micro.specs.Moving.{put_value}
use Rattle.px_parts.specs.Parts.{plan_in}
use Rattle.px_micro.specs.Turns.{begins, from_cell, initial_in, initial_of}
use Rattle.px_micro.proofs.Initial.{initial_cells, right_cells}
use Rattle.px_micro.proofs.Blocks.{values_in-initial, begun_off, begun_at, set_length, fold-flat_map}
use Rattle.px_micro.proofs.Hits.{hit_by, one_hit, keys_apart}

-- a cell of the variables of a node after it
abbrev begun : Parts → ℕ → Going → Value → Value
begun parts i one old = if begins parts one then get_or (initial_of (plan_in parts) one.node) i values.Unknown else old

-- what one node puts into cells
abbrev step : Parts → List Value → Going → List Value
step parts cells one = fold put_value cells (initial_in parts one)

missed : (parts : Parts) (cells : List Value) (one : Going) (node i : ℕ) → one.node < length (plan_in parts)
    → node < length (plan_in parts) → i < cells_of_site (site_in (plan_in parts) node) → node ≢ one.node
    → held (step parts cells one) (first_cell (plan_in parts) node + i) ≡ held cells (first_cell (plan_in parts) node + i)
missed parts cells one node i one_in node_in few apart =
    cond_both (begins parts one) (from_cell (first_cell plan one.node) (initial_of plan one.node)) []
    (λ (given : List CellValue). held (fold put_value cells given) (first_cell plan node + i) ≡ held cells (first_cell plan node + i))
    (λ _. begun_off (initial_of plan one.node) (first_cell plan one.node) cells (first_cell plan node + i)
    (λ j within. nodes_apart plan node one.node i j node_in one_in apart few
    (omega (arith, within, initial_cells plan one.node (flat_sound parts.flat) one_in))))
    (λ _. refl)
  where
    plan : List Site
    plan = plan_in parts

hit : (parts : Parts) (cells : List Value) (one : Going) (i : ℕ) → one.node < length (plan_in parts)
    → i < cells_of_site (site_in (plan_in parts) one.node) → length cells ≡ all_cells (plan_in parts)
    → held (step parts cells one) (first_cell (plan_in parts) one.node + i)
    ≡ begun parts i one (held cells (first_cell (plan_in parts) one.node + i))
hit parts cells one i one_in few all = by (begins parts one)
  where
    plan : List Site
    plan = plan_in parts

    given : List Value
    given = initial_of plan one.node

    many : length given ≡ cells_of_site (site_in plan one.node)
    many = initial_cells plan one.node (flat_sound parts.flat) one_in

    by : (b : Bool)
        → held (fold put_value cells (if b then from_cell (first_cell plan one.node) given else [])) (first_cell plan one.node + i)
        ≡ (if b then get_or given i values.Unknown else held cells (first_cell plan one.node + i))
    by true = begun_at given (first_cell plan one.node) cells i (omega (arith, few, many))
        (omega (arith, many, all, cells_within plan one.node one_in))
    by false = refl

-- the values of a node's variables, by the move that it takes
abbrev pub begun_as : Parts → Option Going → List (List Value) → List (List Value) → List (List Value)
begun_as parts None initial old = old
begun_as parts (Some one) initial old = if begins parts one then initial else old

-- a cell of them
begun_cell : (parts : Parts) (going : List Going) (cells : List Value) (node i : ℕ)
    → AllPairs (λ a b. a.node < b.node) going → All (λ one. one.node < length (plan_in parts)) going
    → length cells ≡ all_cells (plan_in parts) → node < length (plan_in parts)
    → i < cells_of_site (site_in (plan_in parts) node)
    → held (fold put_value cells (flat_map (initial_in parts) going)) (first_cell (plan_in parts) node + i)
    ≡ hit_by (begun parts i) (held cells (first_cell (plan_in parts) node + i)) (find (λ one. nat_eq one.node node) going)
begun_cell parts going cells node i rise within all node_in few =
    let plan : List Site = plan_in parts in
    let cell : ℕ = first_cell plan node + i in
    ap (λ (cells : List Value). held cells cell) (fold-flat_map put_value (initial_in parts) going cells)
    ∙ one_hit (step parts) (λ cells. held cells cell) (λ one. nat_eq one.node node) (λ cells. length cells ≡ all_cells plan)
    (λ one. one.node < length plan) (begun parts i)
    (λ cells one inside long. set_length (λ (one : CellValue). one.cell) (λ (one : CellValue). one.value) (initial_in parts one) cells ∙ long)
    (λ cells one inside long other.
    missed parts cells one node i inside node_in few (λ same. eqb-false one.node node other (sym same)))
    (λ cells one inside long here.
    let is : one.node ≡ node = eqb-true one.node node here in
    subst (λ node. i < cells_of_site (site_in plan node)
    → held (step parts cells one) (first_cell plan node + i) ≡ begun parts i one (held cells (first_cell plan node + i))) is
    (λ few. hit parts cells one i inside few long) few)
    going cells within all (keys_apart (λ (one : Going). one.node) going node rise)

pub begun_variables : (parts : Parts) (going : List Going) (cells : List Value) (node : ℕ) (found : Option Going)
    → AllPairs (λ a b. a.node < b.node) going → All (λ one. one.node < length (plan_in parts)) going
    → length cells ≡ all_cells (plan_in parts) → node < length (plan_in parts)
    → find (λ one. nat_eq one.node node) going ≡ found
    → values_in (site_in (plan_in parts) node).head.variables
    (drop (first_cell (plan_in parts) node) (fold put_value cells (flat_map (initial_in parts) going)))
    ≡ begun_as parts found (map initial_values (site_in (plan_in parts) node).head.variables)
    (values_in (site_in (plan_in parts) node).head.variables (drop (first_cell (plan_in parts) node) cells))
begun_variables parts going cells node found rise within all node_in is = by found is
  where
    plan : List Site
    plan = plan_in parts

    own : List VariableData
    own = (site_in plan node).head.variables

    first : ℕ
    first = first_cell plan node

    after : List Value
    after = fold put_value cells (flat_map (initial_in parts) going)

    long : length after ≡ length cells
    long = set_length (λ (one : CellValue). one.cell) (λ (one : CellValue). one.value) (flat_map (initial_in parts) going) cells

    room : first + cells_of_site (site_in plan node) ≤ length after
    room = omega (arith, long, all, cells_within plan node node_in)

    cell : (i : ℕ) → i < cells_of_site (site_in plan node) → (found : Option Going)
        → find (λ one. nat_eq one.node node) going ≡ found
        → held after (first + i) ≡ hit_by (begun parts i) (held cells (first + i)) found
    cell i few found is =
        begun_cell parts going cells node i rise within all node_in few
        ∙ ap (hit_by (begun parts i) (held cells (first + i))) is

    by : (found : Option Going) → find (λ one. nat_eq one.node node) going ≡ found
        → values_in own (drop first after)
        ≡ begun_as parts found (map initial_values own) (values_in own (drop first cells))
    by None is = values_in-same own first after cells long (λ i few. cell i few None is)
    by (Some one) is = test (begins parts one) refl
      where
        node_is : one.node ≡ node
        node_is = eqb-true one.node node
            (found_has (λ (one : Going). one.node < length plan) (λ one. nat_eq one.node node) going one within is).1

        test : (b : Bool) → begins parts one ≡ b
            → values_in own (drop first after)
            ≡ (if b then map initial_values own else values_in own (drop first cells))
        test true starts =
            values_in-initial own first after (right_cells plan node (flat_sound parts.flat) node_in) room (λ i few.
            cell i few (Some one) is
            ∙ ap (λ b. if b then get_or (initial_of plan one.node) i values.Unknown else held cells (first + i)) starts
            ∙ ap (λ node. get_or (initial_of plan node) i values.Unknown) node_is)
        test false stays =
            values_in-same own first after cells long (λ i few.
            cell i few (Some one) is
            ∙ ap (λ b. if b then get_or (initial_of plan one.node) i values.Unknown else held cells (first + i)) stays)

-- ---- the cells of the initial values

from_cell_small : (given : List Value) (from bound : ℕ) → from + length given ≤ bound
    → All (λ one. one.cell < bound) (from_cell from given)
from_cell_small [] from bound room = All-nil (λ one. one.cell < bound)
from_cell_small (value ∷ given) from bound room =
    All-cons (λ one. one.cell < bound) (record { cell = from; value = value }) (from_cell (from + 1) given) (omega (arith, room))
    (from_cell_small given (from + 1) bound (omega (arith, room)))

pub initial_small : (parts : Parts) (going : List Going) → All (λ one. one.node < length (plan_in parts)) going
    → All (λ one. one.cell < variable_cells (plan_in parts)) (flat_map (initial_in parts) going)
initial_small parts [] within = All-nil (λ one. one.cell < variable_cells (plan_in parts))
initial_small parts (one ∷ going) within =
    All-append (λ one. one.cell < variable_cells (plan_in parts)) (initial_in parts one) (flat_map (initial_in parts) going)
    (cond_both (begins parts one) (from_cell (first_cell plan one.node) (initial_of plan one.node)) []
    (All (λ (one : CellValue). one.cell < variable_cells plan))
    (λ _. from_cell_small (initial_of plan one.node) (first_cell plan one.node) (variable_cells plan)
    (omega (arith, initial_cells plan one.node (flat_sound parts.flat) here, cells_within plan one.node here)))
    (λ _. All-nil (λ one. one.cell < variable_cells plan)))
    (initial_small parts going (All-tail (λ (one : Going). one.node < length (plan_in parts)) one going within))
  where
    plan : List Site
    plan = plan_in parts

    here : one.node < length plan
    here = All-head (λ (one : Going). one.node < length (plan_in parts)) one going within

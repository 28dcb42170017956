-- A write of a cell of a variable is a write of the variable in the world that the parts stand for. (This could as well stand
-- in px_flat.)
use Rattle.std.proofs.Common.{◌≡◌, ◌≢◌, ℕ, ◌+◌, ◌-◌, ◌<◌, ◌≤◌, Bool, true, false, not, List, [], ◌∷◌, length, map, set, take, drop, refl, ap, sym, ◌∙◌, subst, arith, Some, if◌then◌else◌}
use Rattle.std.specs.List.{list_any, zip}
use Rattle.std.specs.Cmp.Lexicographic.{same_text}
use Rattle.std.proofs.lemmas.Bool.{and_parts, not-true, or_parts}
use Rattle.std.proofs.lemmas.Cmp.{nat_list_eq_equiv}
use Rattle.std.proofs.Math.Seq.{take-set-lt}
use Rattle.std.proofs.lemmas.List.{take-set-le, drop-set-lt, drop-set-add, get_or-set_other, length-set}
use Rattle.px_value.specs.declared.value.Value.{Value}
use Rattle.px_value.specs.declared.value.Value.TheVariants as values
use Rattle.px_core.specs.Fit.{all_differ, cells_of, cells_of_site, variables_differ}
use Rattle.px_core.specs.Plan.{Site, VariableData, is_same}
use Rattle.px_sem.specs.Effects.{Write, cell_of, written}
use Rattle.px_sem.specs.Events.{with_record, with_write, written_by}
use Rattle.px_sem.specs.World as world
use Rattle.px_sem.specs.World.{NodeRecord, LookState, Report, record_at}
use Rattle.px_flat.specs.declared.act.Act.{Act}
use Rattle.px_flat.specs.Layout.{Place, place_from, first_cell, variable_cells}
use Rattle.px_flat.specs.Parts.{values_in, record_in, world_of}
use Rattle.px_flat.specs.Row.{site_in}
use Rattle.px_flat.proofs.Changes.{values_in-same, world_of-changed}
use Rattle.px_flat.proofs.Known.{IsSound}
use Rattle.px_flat.proofs.NodeChanges.{variables_alone}
use Rattle.px_flat.proofs.Sites.{found_site}
use Rattle.px_flat.proofs.Worlds.{record_at-world_of}
use Rattle.px_flat.proofs.Variables.{IsDeclared, place_behind, cells_within, nodes_apart}

-- ---- the variables of one node

-- none of them has the name
untouched : (write : Write) (variables : List VariableData) (cells : List Value)
    → list_any (is_same write.name) (map (λ variable. variable.name) variables) ≡ false
    → values_in variables cells ≡ map (written_by write) (zip variables (values_in variables cells))
untouched write [] cells none = refl
untouched write (variable ∷ variables) cells none =
    let parts = or_parts (is_same write.name variable.name) (list_any (is_same write.name) (map (λ variable. variable.name) variables)) none in
    let own : List Value = take (cells_of variable) cells in
    let rest : List Value = drop (cells_of variable) cells in
    ap (λ b. (if b then written own (Some write) else own) ∷ values_in variables rest)
    (sym (nat_list_eq_equiv.symm variable.name write.name ∙ parts.0))
    ∙ ap (λ rest. written_by write (variable, own) ∷ rest)
    (untouched write variables rest parts.1)

-- one of them has it
values_in-write : (write : Write) (variables : List VariableData) (cells : List Value) (from k : ℕ)
    (slot : Place) → place_from from variables write.name ≡ Some slot
    → all_differ (map (λ variable. variable.name) variables) ≡ true
    → cell_of write.place < slot.size → from + k ≡ slot.first + cell_of write.place
    → values_in variables (set cells k write.value) ≡ map (written_by write) (zip variables (values_in variables cells))
values_in-write write [] cells from k slot at differ within there = absurd (cc)
values_in-write write (variable ∷ variables) cells from k slot at differ within there =
    by (is_same variable.name write.name) refl at
    (λ at behind. values_in-write write variables (drop size cells) (from + size) (k - size) slot at parts.1 within
    (omega (arith, behind, there)))
  where
    size : ℕ
    size = cells_of variable

    parts : (not (list_any (is_same variable.name) (map (λ variable. variable.name) variables)) ≡ true)
        × (all_differ (map (λ variable. variable.name) variables) ≡ true)
    parts = and_parts (not (list_any (is_same variable.name) (map (λ variable. variable.name) variables)))
        (all_differ (map (λ variable. variable.name) variables)) differ

    by : (same : Bool) → is_same variable.name write.name ≡ same
        → (if same then Some (record { first = from; size = cells_of variable })
        else place_from (from + cells_of variable) variables write.name) ≡ Some slot
        → (place_from (from + size) variables write.name ≡ Some slot → from + size ≤ slot.first
        → values_in variables (set (drop size cells) (k - size) write.value)
        ≡ map (written_by write) (zip variables (values_in variables (drop size cells))))
        → values_in (variable ∷ variables) (set cells k write.value)
        ≡ map (written_by write) (zip (variable ∷ variables) (values_in (variable ∷ variables) cells))
    by true is at rest =
        let own : Place = record { first = from; size = size } in
        let here : own ≡ slot = (cc) in
        let k_is : k ≡ cell_of write.place = omega (arith, there, ap (λ (slot : Place). slot.first) here) in
        let inside : k < size = omega (arith, within, k_is, ap (λ (slot : Place). slot.size) here) in
        let named : variable.name ≡ write.name = same_text variable.name write.name (sym is) in
        let others : list_any (is_same write.name) (map (λ variable. variable.name) variables) ≡ false =
        subst (λ name. list_any (is_same name) (map (λ variable. variable.name) variables) ≡ false) named (not-true _ parts.0) in
        ap (λ front. front ∷ values_in variables (drop size (set cells k write.value))) (take-set-lt size cells k write.value inside)
        ∙ ap (λ behind. set (take size cells) k write.value ∷ values_in variables behind) (drop-set-lt size cells k write.value inside)
        ∙ ap (λ n. set (take size cells) n write.value ∷ values_in variables (drop size cells)) k_is
        ∙ ap (λ b. (if b then written (take size cells) (Some write) else take size cells) ∷ values_in variables (drop size cells))
        (sym is)
        ∙ ap (λ rest. written_by write (variable, take size cells) ∷ rest)
        (untouched write variables (drop size cells) others)
    by false is at rest =
        let behind : from + size ≤ slot.first = place_behind (from + size) variables write.name slot at in
        let far : k ≡ size + (k - size) = omega (arith, behind, there) in
        ap (λ front. front ∷ values_in variables (drop size (set cells k write.value)))
        (take-set-le size cells k write.value (omega (arith, behind, there)))
        ∙ ap (λ n. take size cells ∷ values_in variables (drop size (set cells n write.value))) far
        ∙ ap (λ behind. take size cells ∷ values_in variables behind) (drop-set-add size cells (k - size) write.value)
        ∙ ap (λ values. take size cells ∷ values) (rest at behind)
        ∙ ap (λ b. (if b then written (take size cells) (Some write) else take size cells)
        ∷ map (written_by write) (zip variables (values_in variables (drop size cells)))) (sym is)

-- ---- the records of all nodes

others_stay : (plan : List Site) (cells : List Value) (acts : List Act) (node cell : ℕ) (value : Value) → node < length plan
    → first_cell plan node ≤ cell → cell < first_cell plan node + cells_of_site (site_in plan node)
    → (other : ℕ) → other < length plan → other ≢ node
    → record_in plan (set cells cell value) acts other ≡ record_in plan cells acts other
others_stay plan cells acts node cell value within from to other there apart =
    let own : List VariableData = (site_in plan other).head.variables in
    let variable : cell < variable_cells plan = omega (arith, to, cells_within plan node within) in
    variables_alone plan cells acts cell value other (values_in own (drop (first_cell plan other) cells))
    (λ at few is. absurd (omega (arith, variable, is)))
    (values_in-same own (first_cell plan other) (set cells cell value) cells (length-set cells cell value) (λ i few.
    get_or-set_other cells cell (first_cell plan other + i) value values.Unknown (λ is.
    nodes_apart plan other node i (cell - first_cell plan node) there within apart few (omega (arith, from, to))
    (omega (arith, from, is)))))

-- a cell of a variable that a node declares
pub record IsCellOf (plan : List Site) (owner name : List ℕ) (place : world.Place) (cell : ℕ) : Type 0 where
  pub declared : IsDeclared plan owner name
  pub differ : variables_differ (site_in plan declared.node) ≡ true
  pub inside : cell_of place < declared.has.place.size
  pub is : cell ≡ declared.has.place.first + cell_of place

pub variable_written : (plan : List Site) (cells : List Value) (reports : List (LookState × Report)) (acts : List Act)
    (owner name : List ℕ) (place : world.Place) (cell : ℕ) (value : Value) → IsSound plan
    → IsCellOf plan owner name place cell
    → world_of plan (set cells cell value) reports acts
    ≡ with_write plan (world_of plan cells reports acts)
    (Some (record { owner = owner; name = name; place = place; value = value }))
variable_written plan cells reports acts owner name place cell value sound of =
    subst (λ owner. world_of plan (set cells cell value) reports acts
    ≡ with_write plan (world_of plan cells reports acts)
    (Some (record { owner = owner; name = name; place = place; value = value }))) of.declared.path_is at_own
  where
    node : ℕ
    node = of.declared.node

    own : Site
    own = site_in plan node

    first : ℕ
    first = first_cell plan node

    behind : first ≤ cell
    behind = omega (arith, of.is, place_behind first own.head.variables name of.declared.has.place of.declared.has.is)

    before : cell < first + cells_of_site own
    before = omega (arith, of.is, of.inside, of.declared.has.within)

    variable : cell < variable_cells plan
    variable = omega (arith, before, cells_within plan node of.declared.within)

    far : cell ≡ first + (cell - first)
    far = omega (arith, behind)

    write : Write
    write = record { owner = own.path; name = name; place = place; value = value }

    variables_are : values_in own.head.variables (drop first (set cells cell value))
        ≡ map (written_by write) (zip own.head.variables (values_in own.head.variables (drop first cells)))
    variables_are =
        ap (λ n. values_in own.head.variables (drop first (set cells n value))) far
        ∙ ap (values_in own.head.variables) (drop-set-add first cells (cell - first) value)
        ∙ values_in-write write own.head.variables (drop first cells) first (cell - first) of.declared.has.place
        of.declared.has.is of.differ of.inside (omega (arith, far, of.is))

    record_is : record_in plan (set cells cell value) acts node
        ≡ record (record_in plan cells acts node)
        { variables = map (written_by write) (zip own.head.variables (record_in plan cells acts node).variables) }
    record_is = variables_alone plan cells acts cell value node
        (map (written_by write) (zip own.head.variables (record_in plan cells acts node).variables))
        (λ at few is. absurd (omega (arith, variable, is))) variables_are

    at_own : world_of plan (set cells cell value) reports acts
        ≡ with_write plan (world_of plan cells reports acts) (Some write)
    at_own =
        world_of-changed plan cells (set cells cell value) reports acts acts node sound.distinct of.declared.within
        (others_stay plan cells acts node cell value of.declared.within behind before)
        ∙ ap (with_record (world_of plan cells reports acts) own.path)
        (record_is
        ∙ ap (λ (r : NodeRecord). record r
        { variables = map (written_by write) (zip own.head.variables r.variables) })
        (sym (record_at-world_of plan cells reports acts node sound.distinct of.declared.within))
        ∙ ap (λ (site : Site). record (record_at (world_of plan cells reports acts) own.path) {
          variables = map (written_by write)
              (zip site.head.variables (record_at (world_of plan cells reports acts) own.path).variables);
        })
        (sym (found_site plan node sound.distinct of.declared.within)))

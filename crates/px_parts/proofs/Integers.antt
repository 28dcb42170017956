-- The Integers that scalars hold.
use Rattle.std.proofs.Common.{◌≡◌, ℕ, ◌+◌, ◌<◌, ◌≤◌, Bool, true, false, cond, List, [], ◌∷◌, length, map, sum, take, drop, refl, ap, sym, ◌∙◌, subst, arith, Option, Some, None, is_some, if◌then◌else◌}
use Rattle.std.specs.Option.{option_and_then, unwrap_or}
use Rattle.std.proofs.Math.Seq.{drop-cons}
use Rattle.std.proofs.lemmas.List.{drop-drop}
use Rattle.px_value.specs.declared.value.Value.{Value}
use Rattle.px_value.specs.declared.value.Value.TheVariants as values
use Rattle.px_core.proofs.Cells.{cells_are}
use Rattle.px_core.specs.declared.variable.Variable.{Variable}
use Rattle.px_core.specs.Fit.{cells_of, AreDistinct}
use Rattle.px_core.specs.Plan.{Site, VariableData, variable_data, is_same, no_site, site_at}
use Rattle.px_sem.specs.World.{World, integer_at, record_at, of_variable, known_cells, variable_among, variable_at}
use Rattle.px_flat.specs.declared.row.Extent.{Extent}
use Rattle.px_flat.specs.declared.row.Row.{Row}
use Rattle.px_flat.specs.Extents.{extent_of}
use Rattle.px_flat.specs.Layout.{first_cell, variable_cells}
use Rattle.px_flat.specs.Numbered.{held}
use Rattle.px_flat.specs.Parts.{values_in}
use Rattle.px_flat.specs.Row.{head_data, site_in, number_at}
use Rattle.px_flat.proofs.Sites.{found_site}
use Rattle.px_flat.proofs.Sums.{sum_rest}
use Rattle.px_flat.proofs.Tables.{flat_sound}
use Rattle.px_flat.proofs.Variables.{cells_within}
use Rattle.px_flat.proofs.Worlds.{record_at-world_of}
use Rattle.px_command.proofs.Told.{told_path, no_site_at}
use Rattle.px_parts.specs.declared.parts.Parts.{Parts}
use Rattle.px_parts.specs.Parts.{AreStanding, plan_in, world_in}
use Rattle.px_parts.specs.Readings.{integer_in, scalar_from}

-- what is declared under a name, and the values that it has there: nothing, an array, or a scalar at a cell
data Declared (cells : List Value) (found : Option VariableData) (held_there : Option (List Value)) : Option ℕ → Type 0 where
  nothing : found ≡ None → Declared cells found held_there None
  array :
      (variable : VariableData) (size : ℕ) → found ≡ Some variable → variable.size ≡ Some size
      → Declared cells found held_there None
  scalar :
      (variable : VariableData) (cell : ℕ) → found ≡ Some variable → variable.size ≡ None
      → held_there ≡ Some (take 1 (drop cell cells)) → Declared cells found held_there (Some cell)

declared : (variables : List VariableData) (cells : List Value) (cell : ℕ) (name : List ℕ)
    → Declared cells (variable_among variables name)
    (of_variable name variables (values_in variables (drop cell cells))) (scalar_from cell variables name)
declared [] cells cell name = nothing refl
declared (variable ∷ variables) cells cell name =
    by (is_same variable.name name) variable.size refl
    (subst (λ behind. Declared cells (variable_among variables name)
    (of_variable name variables (values_in variables behind)) (scalar_from (cell + cells_of variable) variables name))
    (sym (drop-drop (cells_of variable) cell cells)) (declared variables cells (cell + cells_of variable) name))
  where
    by : (same : Bool) (size : Option ℕ) → variable.size ≡ size
        → Declared cells (variable_among variables name)
        (of_variable name variables (values_in variables (drop (cells_of variable) (drop cell cells))))
        (scalar_from (cell + cells_of variable) variables name)
        → Declared cells
        (cond same (Some variable) (variable_among variables name))
        (cond same (Some (take (cells_of variable) (drop cell cells)))
        (of_variable name variables (values_in variables (drop (cells_of variable) (drop cell cells)))))
        (if same then (if is_some variable.size then None else Some cell)
        else scalar_from (cell + cells_of variable) variables name)
    by true None is rest =
        let one : cells_of variable ≡ 1 = cells_are variable ∙ ap (λ size. unwrap_or size 1) is in
        subst (Declared cells (Some variable) (Some (take (cells_of variable) (drop cell cells))))
        (ap (λ size. if is_some size then None else Some cell) (sym is))
        (scalar variable cell refl is (ap (λ count. Some (take count (drop cell cells))) one))
    by true (Some size) is rest =
        subst (Declared cells (Some variable) (Some (take (cells_of variable) (drop cell cells))))
        (ap (λ size. if is_some size then None else Some cell) (sym is)) (array variable size refl is)
    by false size is rest = rest

-- ---- what the semantics reads there

of_scalar : (plan : List Site) (world : World) (owner name : List ℕ) (variable : VariableData) (value : Value)
    → variable_at plan owner name ≡ Some variable → variable.size ≡ None → known_cells plan world owner name ≡ Some (value ∷ [])
    → integer_in value ≡ integer_at plan world owner name
of_scalar plan world owner name variable values.Unknown found size is = rw (found, size, is) refl
of_scalar plan world owner name variable (values.Boolean truth) found size is = rw (found, size, is) refl
of_scalar plan world owner name variable (values.Integer number) found size is = rw (found, size, is) refl
of_scalar plan world owner name variable (values.Text content) found size is = rw (found, size, is) refl
of_scalar plan world owner name variable (values.State state) found size is = rw (found, size, is) refl
of_scalar plan world owner name variable (values.Outcome outcome) found size is = rw (found, size, is) refl
of_scalar plan world owner name variable (values.Failure failure) found size is = rw (found, size, is) refl
of_scalar plan world owner name variable (values.Handle handle) found size is = rw (found, size, is) refl

read : (plan : List Site) (world : World) (owner name : List ℕ) (cells : List Value) (scalar_at : Option ℕ)
    → ((cell : ℕ) → scalar_at ≡ Some cell → cell < length cells)
    → Declared cells (variable_at plan owner name) (known_cells plan world owner name) scalar_at
    → option_and_then (λ cell. integer_in (held cells cell)) scalar_at ≡ integer_at plan world owner name
read plan world owner name cells None within (nothing none) = rw none refl
read plan world owner name cells None within (array variable size found sized) = rw (found, sized) refl
read plan world owner name cells (Some cell) within (scalar variable own found size is) =
    of_scalar plan world owner name variable (held cells cell) found size
    (is ∙ ap (λ behind. Some (take 1 behind)) (drop-cons cells cell values.Unknown (within cell refl)))

-- ---- in the world of parts

-- the cell of a scalar is one of its node
cell_within : (variables : List VariableData) (first : ℕ) (name : List ℕ) (cell : ℕ)
    → scalar_from first variables name ≡ Some cell → cell < first + sum (map cells_of variables)
cell_within [] first name cell is = absurd (cc)
cell_within (variable ∷ variables) first name cell is =
    by (is_same variable.name name) variable.size refl is (cell_within variables (first + cells_of variable) name cell)
  where
    by : (same : Bool) (size : Option ℕ) → variable.size ≡ size
        → (if same then (if is_some variable.size then None else Some first)
        else scalar_from (first + cells_of variable) variables name) ≡ Some cell
        → (scalar_from (first + cells_of variable) variables name ≡ Some cell
        → cell < first + cells_of variable + sum (map cells_of variables))
        → cell < first + sum (map cells_of (variable ∷ variables))
    by true None size is rest =
        let one : cells_of variable ≡ 1 = cells_are variable ∙ ap (λ size. unwrap_or size 1) size in
        let here : Some first ≡ Some cell = ap (λ size. if is_some size then None else Some first) (sym size) ∙ is in
        let same : first ≡ cell = cc here in
        omega (arith, sum_rest cells_of variable variables)
    by true (Some many) size is rest =
        let none : None ≡ Some cell = ap (λ size. if is_some size then None else Some first) (sym size) ∙ is in
        absurd (cc none)
    by false size sized is rest = omega (arith, sum_rest cells_of variable variables, rest is)

pub scalar_within : (parts : Parts) (node : ℕ) (name : List ℕ) (cell : ℕ) → node < length (plan_in parts)
    → scalar_from (first_cell (plan_in parts) node) (site_in (plan_in parts) node).head.variables name ≡ Some cell
    → cell < variable_cells (plan_in parts)
scalar_within parts node name cell within is =
    omega (
      arith,
      cell_within (site_in (plan_in parts) node).head.variables (first_cell (plan_in parts) node) name cell is,
      cells_within (plan_in parts) node within,
    )

pub integer_read : (parts : Parts) (owner name : List ℕ) (node : ℕ) → node < length (plan_in parts)
    → number_at (plan_in parts) owner ≡ Some node
    → variable_cells (plan_in parts) ≤ length parts.cells.contents.values
    → option_and_then (λ cell. integer_in (held parts.cells.contents.values cell))
    (scalar_from (first_cell (plan_in parts) node) (site_in (plan_in parts) node).head.variables name)
    ≡ integer_at (plan_in parts) (world_in parts) owner name
integer_read parts owner name node within is long =
    subst (λ owner. option_and_then (λ cell. integer_in (held cells cell)) found ≡ integer_at plan (world_in parts) owner name)
    (told_path plan owner node is)
    (read plan (world_in parts) own.path name cells found
    (λ cell at. omega (arith, scalar_within parts node name cell within at))
    (subst (λ site. Declared cells (variable_among site.head.variables name)
    (of_variable name site.head.variables (record_at (world_in parts) own.path).variables) found)
    (sym (found_site plan node distinct within))
    (subst (λ r. Declared cells (variable_among own.head.variables name)
    (of_variable name own.head.variables r.variables) found)
    (sym (record_at-world_of plan cells parts.reports.reports parts.actions.contents.values node distinct within))
    (declared own.head.variables cells (first_cell plan node) name))))
  where
    plan : List Site
    plan = plan_in parts

    own : Site
    own = site_in plan node

    cells : List Value
    cells = parts.cells.contents.values

    found : Option ℕ
    found = scalar_from (first_cell plan node) own.head.variables name

    distinct : AreDistinct plan
    distinct = (flat_sound parts.flat).distinct

-- ---- where the plan doesn't have the node

pub no_owner : (parts : Parts) (owner name : List ℕ) → number_at (plan_in parts) owner ≡ None
    → None ≡ integer_at (plan_in parts) (world_in parts) owner name
no_owner parts owner name none =
    let nowhere : site_at (plan_in parts) owner ≡ no_site =
    no_site_at (plan_in parts) owner none in
    rw nowhere refl

-- ---- what the code has read

-- the cell that was sought among a row's variables, from the first cell of its node
pub record IsSought (parts : Parts) (owner name : List ℕ) (node : ℕ) (cell : Option ℕ) : Type 0 where
  pub within : node < length (plan_in parts)
  pub number : number_at (plan_in parts) owner ≡ Some node
  pub found : scalar_from (first_cell (plan_in parts) node) (site_in (plan_in parts) node).head.variables name ≡ cell
  pub stand : AreStanding parts

pub sought_within : (parts : Parts) (owner name : List ℕ) (node cell : ℕ) → IsSought parts owner name node (Some cell)
    → cell < length parts.cells.contents.values
sought_within parts owner name node cell is =
    omega (arith, scalar_within parts node name cell is.within is.found, is.stand.all_cells)

pub sought_read : (parts : Parts) (owner name : List ℕ) (node : ℕ) (cell : Option ℕ) → IsSought parts owner name node cell
    → option_and_then (λ cell. integer_in (held parts.cells.contents.values cell)) cell
    ≡ integer_at (plan_in parts) (world_in parts) owner name
sought_read parts owner name node cell is =
    ap (option_and_then (λ cell. integer_in (held parts.cells.contents.values cell))) (sym is.found)
    ∙ integer_read parts owner name node is.within is.number (omega (arith, is.stand.all_cells))

-- a row's variables stand from the first cell of its extent on
pub sought_in : (parts : Parts) (node : ℕ) (extent : Extent) (row : Row) (variables : List Variable) (name : List ℕ)
    → extent ≡ extent_of (plan_in parts) node → head_data row.head ≡ (site_in (plan_in parts) node).head
    → variables ≡ row.head.variables.items
    → scalar_from (first_cell (plan_in parts) node) (site_in (plan_in parts) node).head.variables name
    ≡ scalar_from extent.first_cell (map variable_data variables) name
sought_in parts node extent row variables name extent_is head is = λ i.
    scalar_from (sym extent_is i).first_cell
    (sym (ap (map variable_data) is ∙ ap (λ head. head.variables) head) i) name

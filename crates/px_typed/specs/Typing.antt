-- Whether variables have their cells, and what they hold is of their types.
use Rattle.std.specs.Prelude.{◌≡◌, ◌≤◌, ℕ, Bool, true, false, List, length, Some, IsTrue, ⊤}
use Rattle.std.specs.List.{All}
use Rattle.std.specs.Option.{ForSome}
use Rattle.px_value.specs.declared.value.Value.{Value}
use Rattle.px_value.specs.declared.value.Value.TheVariants as values
use Rattle.px_core.specs.declared.variable.VarKind.{VarKind}
use Rattle.px_core.specs.declared.variable.VarKind.TheVariants as kinds
use Rattle.px_core.specs.Fit.{cells_of}
use Rattle.px_core.specs.Plan.{Site, VariableData, TargetData, BodyData, Assign, site_at}
use Rattle.px_sem.specs.World.{World, Action, Assigned, record_at, variable_at, cells_at}

-- a value is of a type, or UNKNOWN
abbrev pub suits : VarKind → Value → Bool
suits kinds.Boolean (values.Boolean truth) = true
suits kinds.Integer (values.Integer number) = true
suits kinds.Text (values.Text text) = true
suits kind values.Unknown = true
suits kind value = false

abbrev pub Suits : VarKind → Value → Type 0
Suits kind value = IsTrue (suits kind value)

-- a variable has as many cells as it declares, one or those of its array, and each holds a value of its type, or UNKNOWN
pub record HasCells (variable : VariableData) (cells : List Value) : Type 0 where
  pub count : length cells ≡ cells_of variable
  pub suit : All (Suits variable.kind) cells

-- it has at most as many initial values as cells, and each is of its type, or UNKNOWN
pub record HasInitials (variable : VariableData) : Type 0 where
  pub few : length variable.init ≤ cells_of variable
  pub suit : All (Suits variable.kind) variable.init

abbrev pub InitialsSuit : Site → Type 0
InitialsSuit site = All HasInitials site.head.variables

-- the variable that a node declares by this name has its cells
abbrev pub CellsSuit : List Site → World → List ℕ → List ℕ → Type 0
CellsSuit plan world owner name =
    ForSome (variable_at plan owner name) (λ variable. HasCells variable (cells_at plan world owner name))

-- a value is of the type of a target's variable, or UNKNOWN
abbrev pub SuitsTarget : List Site → TargetData → Value → Type 0
SuitsTarget plan target value =
    ForSome (variable_at plan target.owner target.name) (λ variable. Suits variable.kind value)

-- what an assignment keeps is of its target's type, or UNKNOWN
abbrev pub KeptSuits : List Site → BodyData → Action → Type 0
KeptSuits plan (Assign target value) (Assigned (Some kept)) = SuitsTarget plan target kept.old
KeptSuits plan body _ = ⊤

-- Every declared variable has its cells in a world, and they and every old value that is kept in it are of their types, or
-- UNKNOWN.
pub record IsTyped (plan : List Site) (world : World) : Type 0 where
  pub cells : (owner name : List ℕ) → CellsSuit plan world owner name
  pub kept : (path : List ℕ) → KeptSuits plan (site_at plan path).head.body (record_at world path).action

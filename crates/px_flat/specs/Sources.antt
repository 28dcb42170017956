-- What the value of an expression is read from: cells, those of an array as one source, and lookup names, for each tolerance
-- and for none.
use Rattle.std.specs.Prelude.{◌≡◌, ℕ, ◌+◌, ◌<◌, List, [], ◌∷◌, ◌++◌, length, slice_index_or, Option, All}
use Rattle.px_value.specs.declared.value.Value.{Value}
use Rattle.px_core.specs.Plan.{Site}
use Rattle.px_sem.specs.World.{LookState, Report}
use Rattle.px_flat.specs.Layout.{state_cell, outcome_cell, failure_cell, handle_cell, acknowledgement_cell}
use Rattle.px_flat.specs.Lookups.{lookups_of}
use Rattle.px_flat.specs.Numbered.{Numbered, EachNumbered, NoneNumbered, MoreNumbered, Literal, Variable, Element, StateOf, OutcomeOf, FailureOf, HandleOf, Acknowledged, Look, Unary, Binary, held, reported_of, numbered_value}

-- the cells of a variable or the one of a node, and what is last reported or latched under a lookup name
pub data Source : Type 0 where
  Cells : (first size : ℕ) → Source
  Reports : (lookup : ℕ) (tolerance : Option ℕ) → Source

-- the sources of an expression, from left to right, whatever its value
abbrev mutual
  pub sources_in : List Site → Numbered → List Source
  sources_in plan (Literal value) = []
  sources_in plan (Variable cell) = Cells cell 1 ∷ []
  sources_in plan (Element first size index) = Cells first size ∷ sources_in plan index
  sources_in plan (StateOf node) = Cells (state_cell plan node) 1 ∷ []
  sources_in plan (OutcomeOf node) = Cells (outcome_cell plan node) 1 ∷ []
  sources_in plan (FailureOf node) = Cells (failure_cell plan node) 1 ∷ []
  sources_in plan (HandleOf node) = Cells (handle_cell plan node) 1 ∷ []
  sources_in plan (Acknowledged node) = Cells (acknowledgement_cell plan node) 1 ∷ []
  sources_in plan (Look lookup args tolerance) = Reports lookup tolerance ∷ sources_in_each plan args
  sources_in plan (Unary op arg) = sources_in plan arg
  sources_in plan (Binary op left right) = sources_in plan left ++ sources_in plan right

  pub sources_in_each : List Site → EachNumbered → List Source
  sources_in_each plan NoneNumbered = []
  sources_in_each plan (MoreNumbered first rest) = sources_in plan first ++ sources_in_each plan rest

-- the cells and reports in which an expression has its value
pub record Present : Type 0 where
  pub cells : List Value
  pub reports : List (LookState × Report)

abbrev pub value_in : List Site → Present → Numbered → Value
value_in plan present expr = numbered_value plan present.cells present.reports expr

-- under a name each state reads the same in both, with this tolerance or with none
abbrev pub IsSameReport : List Site → List (LookState × Report) → List (LookState × Report) → ℕ → Option ℕ → Type 0
IsSameReport plan one other lookup tolerance = (args : List Value)
    → reported_of one (slice_index_or (lookups_of plan) lookup []) args tolerance
    ≡ reported_of other (slice_index_or (lookups_of plan) lookup []) args tolerance

-- a source is the same in both: each of its cells holds the same, or each state of its name reads the same
abbrev pub IsSame : List Site → Present → Present → Source → Type 0
IsSame plan one other (Cells first size) =
    (k : ℕ) → k < size → held one.cells (first + k) ≡ held other.cells (first + k)
IsSame plan one other (Reports lookup tolerance) = IsSameReport plan one.reports other.reports lookup tolerance

-- Of so many cells each expression has the same value in both where each of its sources is the same.
abbrev pub ReadOnlySources : List Site → Type 0
ReadOnlySources plan = (expr : Numbered) (one other : Present) → length one.cells ≡ length other.cells
    → All (IsSame plan one other) (sources_in plan expr) → value_in plan one expr ≡ value_in plan other expr

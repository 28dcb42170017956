-- The value of an expression in a world.
use Rattle.std.specs.Prelude.{ℕ, pos, Bool, false, not, List, [], ◌∷◌, length, get_or, Option, Some, None, if◌then◌else◌}
use Rattle.std.specs.List.{list_any}
use Rattle.std.specs.Option.{unwrap_or}
use Rattle.px_value.specs.declared.arithmetic.ArithOp.TheVariants as ariths
use Rattle.px_value.specs.declared.enums.Outcome.{Outcome}
use Rattle.px_value.specs.declared.enums.Failure.{Failure}
use Rattle.px_value.specs.declared.enums.Handle.{Handle}
use Rattle.px_value.specs.declared.value.Value.{Value}
use Rattle.px_value.specs.declared.value.Value.TheVariants as values
use Rattle.px_value.specs.Arithmetic.{value_arith, value_add}
use Rattle.px_value.specs.Comparison.{value_compare}
use Rattle.px_value.specs.Truth.{value_and, value_or, value_xor, value_not}
use Rattle.px_value.specs.Value.{is_known, value_index}
use Rattle.px_core.specs.declared.expr.UnaryOp.{UnaryOp}
use Rattle.px_core.specs.declared.expr.UnaryOp.TheVariants as unary
use Rattle.px_core.specs.declared.expr.BinaryOp.{BinaryOp}
use Rattle.px_core.specs.declared.expr.BinaryOp.TheVariants as binary
use Rattle.px_core.specs.Plan.{Site}
use Rattle.px_core.specs.Expr.{Term, Terms, Literal, Var, Cell, StateOf, OutcomeOf, FailureOf, HandleOf, Acknowledged, Look, Unary, Binary, NoTerms, More}
use Rattle.px_sem.specs.World.{World, Action, Commanded, Updated, LookState, Report, record_at, state_at, cells_at, last_report, latched_report}

-- what there may be none of, as a value
abbrev pub outcome_value : Option Outcome → Value
outcome_value None = values.Unknown
outcome_value (Some outcome) = values.Outcome outcome

abbrev pub failure_value : Option Failure → Value
failure_value None = values.Unknown
failure_value (Some failure) = values.Failure failure

abbrev pub handle_value : Option Handle → Value
handle_value None = values.Unknown
handle_value (Some handle) = values.Handle handle

-- what was said of the command of an action
abbrev pub handle_of : Action → Option Handle
handle_of (Commanded index handle abort) = handle
handle_of _ = None

-- whether the update of an action was acknowledged
abbrev pub is_acknowledged : Action → Bool
is_acknowledged (Updated acknowledged) = acknowledged
is_acknowledged _ = false

-- the element of an array at an index, UNKNOWN where there is none
abbrev pub element : List Value → Value → Value
element cells at = there (value_index cells at)
  where
    there : Option ℕ → Value
    there None = values.Unknown
    there (Some place) = get_or cells place values.Unknown

-- what a lookup reads of a state: the value that its tolerance has latched, and without one the value last reported
abbrev pub read_report : List (LookState × Report) → LookState → Option ℕ → Option Value
read_report reports state None = last_report reports state
read_report reports state (Some tolerance) = latched_report reports state tolerance

-- The value of a lookup of the state that a name and arguments make (PLEXIL reference manual, "Lookups"). A state that was
-- never reported, and an argument that is UNKNOWN, give UNKNOWN.
abbrev pub looked_up : World → List ℕ → List Value → Option ℕ → Value
looked_up world name args tolerance =
    if list_any (λ arg. not (is_known arg)) args then values.Unknown
    else unwrap_or (read_report world.reports (record { name = name; args = args }) tolerance) values.Unknown

-- the number of bytes of a text
abbrev pub value_length : Value → Value
value_length (values.Text text) = values.Integer (pos (length text))
value_length value = values.Unknown

abbrev pub zero_value : Value
zero_value = values.Integer (pos 0)

-- the operations of one operand, and of two
abbrev pub unary_value : UnaryOp → Value → Value
unary_value unary.Not a = value_not a
unary_value unary.Minus a = value_arith ariths.Minus zero_value a
unary_value unary.IsKnown a = values.Boolean (is_known a)
unary_value unary.Abs a = value_arith ariths.Max a (value_arith ariths.Minus zero_value a)
unary_value unary.Length a = value_length a

abbrev pub binary_value : BinaryOp → Value → Value → Value
binary_value binary.And a b = value_and a b
binary_value binary.Or a b = value_or a b
binary_value binary.Xor a b = value_xor a b
binary_value (binary.Compare op) a b = value_compare op a b
binary_value binary.Add a b = value_add a b
binary_value (binary.Arith op) a b = value_arith op a b

-- the value of an expression, and of each of a lookup's arguments (PLEXIL reference manual, "Expressions")
abbrev mutual
  pub value : List Site → World → Term → Value
  value plan world (Literal given) = given
  value plan world (Var owner name) = get_or (cells_at plan world owner name) 0 values.Unknown
  value plan world (Cell owner name index) = element (cells_at plan world owner name) (value plan world index)
  value plan world (StateOf path) = values.State (state_at world path)
  value plan world (OutcomeOf path) = outcome_value (record_at world path).outcome
  value plan world (FailureOf path) = failure_value (record_at world path).failure
  value plan world (HandleOf path) = handle_value (handle_of (record_at world path).action)
  value plan world (Acknowledged path) = values.Boolean (is_acknowledged (record_at world path).action)
  value plan world (Look word name args tolerance) = looked_up world name (value_of_each plan world args) tolerance
  value plan world (Unary op arg) = unary_value op (value plan world arg)
  value plan world (Binary op left right) = binary_value op (value plan world left) (value plan world right)

  pub value_of_each : List Site → World → Terms → List Value
  value_of_each plan world NoTerms = []
  value_of_each plan world (More first rest) = value plan world first ∷ value_of_each plan world rest

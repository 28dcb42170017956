-- Expressions whose variables, nodes and lookup names are numbers, and their values in cells and reports.
use Rattle.std.specs.Prelude.{ℕ, List, [], ◌∷◌, map, take, drop, position, slice_index_or, Option}
use Rattle.std.specs.Option.{option_map, option_and_then, unwrap_or}
use Rattle.px_value.specs.declared.value.Value.{Value}
use Rattle.px_value.specs.declared.value.Value.TheVariants.{Unknown}
use Rattle.px_core.specs.declared.expr.BinaryOp.{BinaryOp}
use Rattle.px_core.specs.declared.expr.UnaryOp.{UnaryOp}
use Rattle.px_core.specs.declared.variable.VarKind.{VarKind}
use Rattle.px_core.specs.declared.variable.VarKind.TheVariants as kinds
use Rattle.px_core.specs.Plan as core
use Rattle.px_core.specs.Plan.{Site, Head, VariableData, ConditionTerms, TargetData, BodyData, is_same}
use Rattle.px_core.specs.Expr as terms
use Rattle.px_core.specs.Expr.{Term, Terms, NoTerms, More}
use Rattle.px_sem.specs.Expressions.{element, looked_up, unary_value, binary_value}
use Rattle.px_sem.specs.World.{LookState, Report, of_variable}
use Rattle.px_flat.specs.Layout.{Place, place_at, state_cell, outcome_cell, failure_cell, handle_cell, acknowledgement_cell}
use Rattle.px_flat.specs.Lookups.{lookups_of}
use Rattle.px_flat.specs.Row.{site_in, number_at}

-- ---- with numbers in place of names

mutual
  pub data Numbered : Type 0 where
    Literal : (value : Value) → Numbered
    Variable : (cell : ℕ) → Numbered
    Element : (first size : ℕ) (index : Numbered) → Numbered
    StateOf : (node : ℕ) → Numbered
    OutcomeOf : (node : ℕ) → Numbered
    FailureOf : (node : ℕ) → Numbered
    HandleOf : (node : ℕ) → Numbered
    Acknowledged : (node : ℕ) → Numbered
    Look : (lookup : ℕ) (args : EachNumbered) (tolerance : Option ℕ) → Numbered
    Unary : (op : UnaryOp) (arg : Numbered) → Numbered
    Binary : (op : BinaryOp) (left right : Numbered) → Numbered

  pub data EachNumbered : Type 0 where
    NoneNumbered : EachNumbered
    MoreNumbered : (first : Numbered) (rest : EachNumbered) → EachNumbered

-- A fit plan has all that its expressions name. What it doesn't have is asked for the first node, cell or name.
abbrev pub node_of : List Site → List ℕ → ℕ
node_of plan path = unwrap_or (number_at plan path) 0

abbrev pub place_of : List Site → List ℕ → List ℕ → Place
place_of plan owner name = unwrap_or (place_at plan owner name) (record { first = 0; size = 0 })

abbrev pub lookup_of : List Site → List ℕ → ℕ
lookup_of plan name = unwrap_or (position (is_same name) (lookups_of plan)) 0

abbrev mutual
  pub numbered : List Site → Term → Numbered
  numbered plan (terms.Literal value) = Literal value
  numbered plan (terms.Var owner name) = Variable (place_of plan owner name).first
  numbered plan (terms.Cell owner name index) =
      Element (place_of plan owner name).first (place_of plan owner name).size (numbered plan index)
  numbered plan (terms.StateOf path) = StateOf (node_of plan path)
  numbered plan (terms.OutcomeOf path) = OutcomeOf (node_of plan path)
  numbered plan (terms.FailureOf path) = FailureOf (node_of plan path)
  numbered plan (terms.HandleOf path) = HandleOf (node_of plan path)
  numbered plan (terms.Acknowledged path) = Acknowledged (node_of plan path)
  numbered plan (terms.Look word name args tolerance) = Look (lookup_of plan name) (each_numbered plan args) tolerance
  numbered plan (terms.Unary op arg) = Unary op (numbered plan arg)
  numbered plan (terms.Binary op left right) = Binary op (numbered plan left) (numbered plan right)

  pub each_numbered : List Site → Terms → EachNumbered
  each_numbered plan NoTerms = NoneNumbered
  each_numbered plan (More first rest) = MoreNumbered (numbered plan first) (each_numbered plan rest)

-- ---- values

-- the value of a cell
abbrev pub held : List Value → ℕ → Value
held cells cell = slice_index_or cells cell Unknown

-- the value of a lookup of the state that a name and arguments make, as the semantics has it of a world
abbrev pub reported_of : List (LookState × Report) → List ℕ → List Value → Option ℕ → Value
reported_of reports name args tolerance = looked_up (record { nodes = []; reports = reports }) name args tolerance

-- the value of a numbered expression, and of each of a lookup's arguments
abbrev mutual
  pub numbered_value : List Site → List Value → List (LookState × Report) → Numbered → Value
  numbered_value plan cells reports (Literal value) = value
  numbered_value plan cells reports (Variable cell) = held cells cell
  numbered_value plan cells reports (Element first size index) =
      element (take size (drop first cells)) (numbered_value plan cells reports index)
  numbered_value plan cells reports (StateOf node) = held cells (state_cell plan node)
  numbered_value plan cells reports (OutcomeOf node) = held cells (outcome_cell plan node)
  numbered_value plan cells reports (FailureOf node) = held cells (failure_cell plan node)
  numbered_value plan cells reports (HandleOf node) = held cells (handle_cell plan node)
  numbered_value plan cells reports (Acknowledged node) = held cells (acknowledgement_cell plan node)
  numbered_value plan cells reports (Look lookup args tolerance) =
      reported_of reports (slice_index_or (lookups_of plan) lookup []) (numbered_values plan cells reports args) tolerance
  numbered_value plan cells reports (Unary op arg) = unary_value op (numbered_value plan cells reports arg)
  numbered_value plan cells reports (Binary op left right) =
      binary_value op (numbered_value plan cells reports left) (numbered_value plan cells reports right)

  pub numbered_values : List Site → List Value → List (LookState × Report) → EachNumbered → List Value
  numbered_values plan cells reports NoneNumbered = []
  numbered_values plan cells reports (MoreNumbered first rest) =
      numbered_value plan cells reports first ∷ numbered_values plan cells reports rest

-- ---- a node's conditions and body

pub record ConditionsNumbered : Type 0 where
  pub start : Numbered
  pub end : Numbered
  pub exit : Numbered
  pub skip : Numbered
  pub repeat : Numbered
  pub pre : Numbered
  pub post : Numbered
  pub invariant : Numbered

abbrev pub numbered_conditions : List Site → ConditionTerms → ConditionsNumbered
numbered_conditions plan conditions = record {
  start = numbered plan conditions.start;
  end = numbered plan conditions.end;
  exit = numbered plan conditions.exit;
  skip = numbered plan conditions.skip;
  repeat = numbered plan conditions.repeat;
  pre = numbered plan conditions.pre;
  post = numbered plan conditions.post;
  invariant = numbered plan conditions.invariant;
}

-- what is written: the place of a variable, its type, and which element of an array
pub record TargetNumbered : Type 0 where
  pub place : Place
  pub kind : VarKind
  pub index : Option Numbered

-- the type of the variable of this name among these
abbrev pub kind_among : List VariableData → List ℕ → Option VarKind
kind_among variables name = of_variable name variables (map (λ variable. variable.kind) variables)

-- the type of the variable that a node declares
abbrev pub kind_of : List Site → List ℕ → List ℕ → VarKind
kind_of plan owner name =
    unwrap_or (option_and_then (λ node. kind_among (site_in plan node).head.variables name) (number_at plan owner))
    kinds.Boolean

abbrev pub numbered_target : List Site → TargetData → TargetNumbered
numbered_target plan target = record {
  place = place_of plan target.owner target.name;
  kind = kind_of plan target.owner target.name;
  index = option_map (numbered plan) target.index;
}

pub data BodyNumbered : Type 0 where
  Nothing : BodyNumbered
  Assign : (target : TargetNumbered) (value : Numbered) → BodyNumbered
  Command : (args : List Numbered) (result : Option TargetNumbered) → BodyNumbered
  Update : (values : List Numbered) → BodyNumbered

abbrev pub numbered_body : List Site → BodyData → BodyNumbered
numbered_body plan core.Nothing = Nothing
numbered_body plan (core.Assign target value) = Assign (numbered_target plan target) (numbered plan value)
numbered_body plan (core.Command name args result) =
    Command (map (numbered plan) args) (option_map (numbered_target plan) result)
numbered_body plan (core.Update pairs) = Update (map (λ pair. numbered plan pair.value) pairs)

-- what a node computes
pub record NodeNumbered : Type 0 where
  pub conditions : ConditionsNumbered
  pub body : BodyNumbered

abbrev pub numbered_node : List Site → Head → NodeNumbered
numbered_node plan head = record {
  conditions = numbered_conditions plan head.conditions;
  body = numbered_body plan head.body;
}

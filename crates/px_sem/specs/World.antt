-- The world: what is so of each node, and what was reported of the outside.
use Rattle.std.specs.Prelude.{ℕ, ℤ, Bool, List, [], ◌∷◌, map, replicate, ◌&&◌, nat_eq, Option, Some, None}
use Rattle.std.specs.Cmp.Lexicographic.{pointwise}
use Rattle.std.specs.List.{zip, find}
use Rattle.std.specs.Map.{lookup}
use Rattle.std.specs.Option.{option_map, option_and_then, unwrap_or}
use Rattle.px_value.specs.declared.enums.NodeState.{NodeState}
use Rattle.px_value.specs.declared.enums.NodeState.TheVariants as states
use Rattle.px_value.specs.declared.enums.Outcome.{Outcome}
use Rattle.px_value.specs.declared.enums.Outcome.TheVariants.{Success}
use Rattle.px_value.specs.declared.enums.Failure.{Failure}
use Rattle.px_value.specs.declared.enums.Handle.{Handle}
use Rattle.px_value.specs.declared.value.Value.{Value}
use Rattle.px_value.specs.declared.value.Value.TheVariants.{Unknown, Integer}
use Rattle.px_core.specs.Plan.{Site, Head, VariableData, is_same, root_of, site_at}
use Rattle.px_core.specs.Fit.{cells_of}
use Rattle.px_event.specs.Values.{value_eq}
use Rattle.px_sem.specs.declared.standing.Standing.{Standing}
use Rattle.px_sem.specs.declared.standing.Standing.TheVariants.{Running, Finished}

-- how far the abort of a command has come (PLEXIL reference manual, "Commands")
pub data Abort : Type 0 where
  NoAbort : Abort
  AbortSent : Abort
  AbortDone : Abort

-- a place of a variable: a scalar as a whole, or the element of an array at an index
pub data Place : Type 0 where
  Whole : Place
  Element : (index : ℕ) → Place

-- what an assignment wrote over: the place, and the value before
pub record Overwritten : Type 0 where
  pub place : Place
  pub old : Value

-- What a node has under way: nothing; an assignment, which keeps what it wrote over, or wrote nothing; a command, with
-- the index of its result where that was in range; or an update.
pub data Action : Type 0 where
  NoAction : Action
  Assigned : (kept : Option Overwritten) → Action
  Commanded : (index : Option ℕ) (handle : Option Handle) (abort : Abort) → Action
  Updated : (acknowledged : Bool) → Action

-- what is so of one node (PLEXIL reference manual, "Node States", "Node Outcomes", "Failure Types"); the values of each of
-- its variables, in order
pub record NodeRecord : Type 0 where
  pub state : NodeState
  pub outcome : Option Outcome
  pub failure : Option Failure
  pub variables : List (List Value)
  pub action : Action

-- a state of the outside that plans look up (PLEXIL reference manual, "Lookups")
pub record LookState : Type 0 where
  pub name : List ℕ
  pub args : List Value

-- what was reported of a state: the value last reported, and a latched value for each tolerance of the plan, rising
pub record Report : Type 0 where
  pub last : Value
  pub latched : List (ℕ × Value)

-- A finite map from the path of each node to its record, in preorder, and one from each reported state to its report, in
-- the order in which the states were first reported.
pub record World : Type 0 where
  pub nodes : List (List ℕ × NodeRecord)
  pub reports : List (LookState × Report)

-- a node that has not begun
abbrev pub initial_record : Head → NodeRecord
initial_record head = record {
  state = states.Inactive;
  outcome = None;
  failure = None;
  variables = map (λ variable. replicate (cells_of variable) Unknown) head.variables;
  action = NoAction;
}

-- the world before the start
abbrev pub initial_world : List Site → World
initial_world plan = record {
  nodes = map (λ site. (site.path, initial_record site.head)) plan;
  reports = [];
}

-- what is so of no node
abbrev pub no_record : NodeRecord
no_record = record { state = states.Inactive; outcome = None; failure = None; variables = []; action = NoAction }

-- the record of the node at a path
abbrev pub record_at : World → List ℕ → NodeRecord
record_at world path = unwrap_or (lookup (λ key. is_same key path) world.nodes) no_record

-- the state of the node at a path, which the plan has
abbrev pub state_at : World → List ℕ → NodeState
state_at world path = (record_at world path).state

-- the state of the node at a path, or none where there is no such node
abbrev pub known_state : World → List ℕ → Option NodeState
known_state world path = option_map (λ r. r.state) (lookup (λ key. is_same key path) world.nodes)

-- The state of a node's parent. The root has a virtual parent, which is always EXECUTING.
abbrev pub parent_state : World → Site → NodeState
parent_state world site = of_first site.above
  where
    of_first : List (List ℕ) → NodeState
    of_first [] = states.Executing
    of_first (parent ∷ above) = state_at world parent

-- the first of variables that has this name
abbrev pub variable_among : List VariableData → List ℕ → Option VariableData
variable_among variables name = find (λ variable. is_same variable.name name) variables

-- the variable of this name that a node declares
abbrev pub variable_at : List Site → List ℕ → List ℕ → Option VariableData
variable_at plan owner name = variable_among (site_at plan owner).head.variables name

-- what belongs to the variable of this name, among the variables and as many things in their order
abbrev pub of_variable : {A : Type 0} → List ℕ → List VariableData → List A → Option A
of_variable name variables things =
    lookup (λ variable. is_same variable.name name) (zip variables things)

-- the values of the variable of this name that a node declares, or none where it declares no such variable
abbrev pub known_cells : List Site → World → List ℕ → List ℕ → Option (List Value)
known_cells plan world owner name = of_variable name (site_at plan owner).head.variables (record_at world owner).variables

abbrev pub cells_at : List Site → World → List ℕ → List ℕ → List Value
cells_at plan world owner name = unwrap_or (known_cells plan world owner name) []

-- the Integer that a scalar variable holds
abbrev pub integer_at : List Site → World → List ℕ → List ℕ → Option ℤ
integer_at plan world owner name = of_declared (variable_at plan owner name)
  where
    held : Option ℕ → List Value → Option ℤ
    held None (Integer number ∷ cells) = Some number
    held size cells = None

    of_declared : Option VariableData → Option ℤ
    of_declared None = None
    of_declared (Some variable) = held variable.size (cells_at plan world owner name)

-- two states of the outside agree by name, and by type and value of each argument
abbrev pub is_same_state : LookState → LookState → Bool
is_same_state a b = is_same a.name b.name && pointwise value_eq a.args b.args

-- the report of a state
abbrev pub report_at : List (LookState × Report) → LookState → Option Report
report_at reports state = lookup (λ key. is_same_state key state) reports

-- the last value reported of a state
abbrev pub last_report : List (LookState × Report) → LookState → Option Value
last_report reports state = option_map (λ report. report.last) (report_at reports state)

-- the value that a tolerance has latched in a report
abbrev pub latched_at : Report → ℕ → Option Value
latched_at report tolerance = lookup (nat_eq tolerance) report.latched

-- the value that a tolerance has latched in the report of a state
abbrev pub latched_report : List (LookState × Report) → LookState → ℕ → Option Value
latched_report reports state tolerance =
    option_and_then (λ report. latched_at report tolerance) (report_at reports state)

-- Whether a plan has finished, and how: by the record of its root. A node that has finished has an outcome.
abbrev pub standing_of : List Site → World → Standing
standing_of plan world = of_state (state_at world (root_of plan).path)
  where
    root : NodeRecord
    root = record_at world (root_of plan).path

    of_state : NodeState → Standing
    of_state states.Finished = Finished (unwrap_or root.outcome Success) root.failure
    of_state state = Running

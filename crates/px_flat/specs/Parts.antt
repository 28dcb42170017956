-- The world that parts stand for: cells by the layout of a plan, reports, and what each node has under way.
use Rattle.std.specs.Prelude.{◌≡◌, ℕ, ◌<◌, Bool, true, false, not, ◌&&◌, nat_lt, List, [], ◌∷◌, map, take, drop, length, slice_index_or, Option, Some, None, is_some, IsTrue}
use Rattle.std.specs.List.{enumerate_from}
use Rattle.px_value.specs.declared.enums.NodeState.{NodeState}
use Rattle.px_value.specs.declared.enums.NodeState.TheVariants.{Inactive}
use Rattle.px_value.specs.declared.enums.Outcome.{Outcome}
use Rattle.px_value.specs.declared.enums.Failure.{Failure}
use Rattle.px_value.specs.declared.enums.Handle.{Handle}
use Rattle.px_value.specs.declared.value.Value.{Value}
use Rattle.px_value.specs.declared.value.Value.TheVariants as values
use Rattle.px_core.specs.Fit.{cells_of}
use Rattle.px_core.specs.Plan.{Site, VariableData, TargetData, BodyData, Assign, Command, Update}
use Rattle.px_sem.specs.World as world
use Rattle.px_sem.specs.World.{World, NodeRecord, Action, NoAction, Assigned, Commanded, LookState, Report}
use Rattle.px_flat.specs.declared.act.Abort.{Abort}
use Rattle.px_flat.specs.declared.act.Abort.TheVariants as aborts
use Rattle.px_flat.specs.declared.act.Act.{Act}
use Rattle.px_flat.specs.declared.act.Act.TheVariants as under_way
use Rattle.px_flat.specs.Layout.{first_cell, state_cell, outcome_cell, failure_cell, handle_cell, acknowledgement_cell}
use Rattle.px_flat.specs.Layout as layout
use Rattle.px_flat.specs.Numbered.{held, place_of}
use Rattle.px_flat.specs.Row.{site_in}

-- ---- what a value says of a node

abbrev pub state_in : Value → NodeState
state_in (values.State state) = state
state_in value = Inactive

abbrev pub outcome_in : Value → Option Outcome
outcome_in (values.Outcome outcome) = Some outcome
outcome_in value = None

abbrev pub failure_in : Value → Option Failure
failure_in (values.Failure failure) = Some failure
failure_in value = None

abbrev pub handle_in : Value → Option Handle
handle_in (values.Handle handle) = Some handle
handle_in value = None

abbrev pub truth_in : Value → Bool
truth_in (values.Boolean truth) = truth
truth_in value = false

-- ---- the record of a node

abbrev pub abort_in : Abort → world.Abort
abort_in aborts.NotAsked = world.NoAbort
abort_in aborts.Sent = world.AbortSent
abort_in aborts.Done = world.AbortDone

-- what a node has under way, with its handle and its acknowledgement
abbrev pub action_in : Act → Value → Value → Action
action_in under_way.Idle handle acknowledgement = NoAction
action_in under_way.Unwritten handle acknowledgement = Assigned None
action_in (under_way.Scalar old) handle acknowledgement = Assigned (Some (record { place = world.Whole; old = old }))
action_in (under_way.Element index old) handle acknowledgement =
    Assigned (Some (record { place = world.Element index; old = old }))
action_in (under_way.Sent index abort) handle acknowledgement = Commanded index (handle_in handle) (abort_in abort)
action_in under_way.Updated handle acknowledgement = world.Updated (truth_in acknowledgement)

-- the values of variables that stand one after another
abbrev pub values_in : List VariableData → List Value → List (List Value)
values_in [] cells = []
values_in (variable ∷ variables) cells =
    take (cells_of variable) cells ∷ values_in variables (drop (cells_of variable) cells)

-- what a node has under way
abbrev pub act_of : List Act → ℕ → Act
act_of acts node = slice_index_or acts node under_way.Idle

abbrev pub record_in : List Site → List Value → List Act → ℕ → NodeRecord
record_in plan cells acts node = record {
  state = state_in (held cells (state_cell plan node));
  outcome = outcome_in (held cells (outcome_cell plan node));
  failure = failure_in (held cells (failure_cell plan node));
  variables = values_in (site_in plan node).head.variables (drop (first_cell plan node) cells);
  action = action_in (act_of acts node) (held cells (handle_cell plan node))
      (held cells (acknowledgement_cell plan node));
}

-- the entries of nodes from a number on, with this record of each
abbrev pub entries : (ℕ → NodeRecord) → ℕ → List Site → List (List ℕ × NodeRecord)
entries f first plan = map (λ entry. (entry.1.path, f entry.0)) (enumerate_from first plan)

-- the world that cells, reports and acts stand for
abbrev pub world_of : List Site → List Value → List (LookState × Report) → List Act → World
world_of plan cells reports acts = record { nodes = entries (record_in plan cells acts) 0 plan; reports = reports }

-- ---- whether parts stand for a world

abbrev pub is_state : Value → Bool
is_state (values.State state) = true
is_state value = false

abbrev pub is_outcome : Value → Bool
is_outcome values.Unknown = true
is_outcome (values.Outcome outcome) = true
is_outcome value = false

abbrev pub is_failure : Value → Bool
is_failure values.Unknown = true
is_failure (values.Failure failure) = true
is_failure value = false

-- a handle is told of a command alone
abbrev pub is_handle_of : Act → Value → Bool
is_handle_of act values.Unknown = true
is_handle_of (under_way.Sent index abort) (values.Handle handle) = true
is_handle_of act value = false

-- an acknowledgement is told of an update alone
abbrev pub is_acknowledgement_of : Act → Value → Bool
is_acknowledgement_of act (values.Boolean false) = true
is_acknowledgement_of under_way.Updated (values.Boolean true) = true
is_acknowledgement_of act value = false

-- an index is within the array that is written
abbrev pub is_within : List Site → TargetData → ℕ → Bool
is_within plan target index = is_some target.index && nat_lt index (place_of plan target.owner target.name).size

-- What a node may have under way: what it wrote, or will write with a result, is a place of its target.
abbrev pub fits : List Site → BodyData → Act → Bool
fits plan body under_way.Idle = true
fits plan (Assign target value) under_way.Unwritten = is_some target.index
fits plan (Assign target value) (under_way.Scalar old) = not (is_some target.index)
fits plan (Assign target value) (under_way.Element index old) = is_within plan target index
fits plan (Command name args result) (under_way.Sent None abort) = true
fits plan (Command name args (Some target)) (under_way.Sent (Some index) abort) = is_within plan target index
fits plan (Update pairs) under_way.Updated = true
fits plan body act = false

-- The parts of one node. Its state cell holds a State; its outcome and failure cells hold what they are named for, or
-- UNKNOWN; its handle cell holds a Handle or UNKNOWN, and UNKNOWN where it has no command under way; its acknowledgement
-- cell holds a Boolean, which is false where it has no update under way; and what it has under way is what its body may
-- have, at a place of its target.
pub record IsNode (plan : List Site) (cells : List Value) (acts : List Act) (node : ℕ) : Type 0 where
  pub state : IsTrue (is_state (held cells (state_cell plan node)))
  pub outcome : IsTrue (is_outcome (held cells (outcome_cell plan node)))
  pub failure : IsTrue (is_failure (held cells (failure_cell plan node)))
  pub handle : IsTrue (is_handle_of (act_of acts node) (held cells (handle_cell plan node)))
  pub acknowledgement :
      IsTrue (is_acknowledgement_of (act_of acts node) (held cells (acknowledgement_cell plan node)))
  pub act : IsTrue (fits plan (site_in plan node).head.body (act_of acts node))

-- Parts stand for a world of a plan where there are as many cells as its layout has, as many acts as it has nodes, and
-- the parts of each node are right.
pub record IsParts (plan : List Site) (cells : List Value) (acts : List Act) : Type 0 where
  pub all_cells : length cells ≡ layout.all_cells plan
  pub all_acts : length acts ≡ length plan
  pub nodes : (node : ℕ) → node < length plan → IsNode plan cells acts node

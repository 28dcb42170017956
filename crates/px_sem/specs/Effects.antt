-- What a move does beside the change of state.
use Rattle.std.specs.Prelude.{ℕ, ◌-◌, Bool, true, false, ◌&&◌, List, [], ◌∷◌, ◌++◌, length, map, replicate, set, get_or, Option, Some, None, if◌then◌else◌}
use Rattle.std.specs.Option.{option_map, option_map_or, option_and_then}
use Rattle.px_value.specs.declared.enums.NodeState.{NodeState}
use Rattle.px_value.specs.declared.enums.NodeState.TheVariants as states
use Rattle.px_value.specs.declared.value.Value.{Value}
use Rattle.px_value.specs.declared.value.Value.TheVariants as values
use Rattle.px_value.specs.Value.{value_index}
use Rattle.px_core.specs.declared.variable.VarKind.{VarKind}
use Rattle.px_core.specs.declared.variable.VarKind.TheVariants as kinds
use Rattle.px_core.specs.Fit.{cells_of}
use Rattle.px_core.specs.Plan.{Site, BodyData, Nothing, Assign, Command, Update, TargetData, PairData, VariableData, is_same}
use Rattle.px_core.specs.Expr.{Term}
use Rattle.px_sem.specs.declared.guards.Arrival.{Arrival}
use Rattle.px_sem.specs.declared.moves.Effect.{Effect}
use Rattle.px_sem.specs.declared.moves.Effect.TheVariants as effects
use Rattle.px_sem.specs.Expressions.{value}
use Rattle.px_sem.specs.World.{World, NodeRecord, Action, NoAction, Assigned, Commanded, Updated, NoAbort, AbortSent, Place, Whole, Element, record_at, cells_at, variable_at}

-- ---- which move it is

pub data MoveKind : Type 0 where
  -- INACTIVE to WAITING
  Initializes : MoveKind
  -- ITERATION_ENDED to WAITING, FINISHED to INACTIVE
  Resets : MoveKind
  -- WAITING to EXECUTING
  Starts : MoveKind
  -- to FAILING
  Fails : MoveKind
  -- every other move
  Other : MoveKind

abbrev pub move_kind : NodeState → NodeState → MoveKind
move_kind states.Inactive states.Waiting = Initializes
move_kind states.IterationEnded states.Waiting = Resets
move_kind states.Finished states.Inactive = Resets
move_kind states.Waiting states.Executing = Starts
move_kind from states.Failing = Fails
move_kind from to = Other

abbrev pub is_initializing : MoveKind → Bool
is_initializing Initializes = true
is_initializing move = false

-- ---- writes

-- a value to be written at a place of a variable
pub record Write : Type 0 where
  pub owner : List ℕ
  pub name : List ℕ
  pub place : Place
  pub value : Value

-- a value of another type than the variable's is written as UNKNOWN
abbrev pub as_kind : VarKind → Value → Value
as_kind kinds.Boolean (values.Boolean truth) = values.Boolean truth
as_kind kinds.Integer (values.Integer number) = values.Integer number
as_kind kinds.Text (values.Text text) = values.Text text
as_kind kind value = values.Unknown

-- a value as the variable of a target takes it
abbrev pub taken_as : List Site → TargetData → Value → Value
taken_as plan target given =
    option_map_or (λ variable. as_kind variable.kind given) (variable_at plan target.owner target.name) values.Unknown

-- the write of a value at a place of a target's variable
abbrev pub write_at : List Site → TargetData → Value → Place → Write
write_at plan target given place =
    record { owner = target.owner; name = target.name; place = place; value = taken_as plan target given }

-- the place of a target, whose index is taken in this world; none where an array does not have the index
abbrev pub place_of : List Site → World → TargetData → Option Place
place_of plan world target = at target.index
  where
    at : Option Term → Option Place
    at None = Some Whole
    at (Some index) =
        option_map Element (value_index (cells_at plan world target.owner target.name) (value plan world index))

-- the index of a place in an array
abbrev pub index_of : Place → Option ℕ
index_of Whole = None
index_of (Element index) = Some index

-- the number of the cell at a place: a scalar has one cell
abbrev pub cell_of : Place → ℕ
cell_of Whole = 0
cell_of (Element index) = index

-- the value at a place of a variable with these cells
abbrev pub value_at : List Value → Place → Value
value_at cells place = get_or cells (cell_of place) values.Unknown

abbrev pub told_write : Write → Effect
told_write write = effects.Wrote write.owner write.name (index_of write.place) write.value

-- ---- effects

-- what a move does: what it writes, what the node has under way after it, and what is told of it
pub record Effects : Type 0 where
  pub write : Option Write
  pub action : Action
  pub told : Option Effect

-- nothing is written, and nothing is told
abbrev pub silent : Action → Effects
silent action = record { write = None; action = action; told = None }

-- a write, which is told
abbrev pub writing : Action → Write → Effects
writing action write = record { write = Some write; action = action; told = Some (told_write write) }

-- an assignment writes its right side at this place and keeps the old value (PLEXIL reference manual, "Assignment Nodes");
-- it writes nothing where it has no place
abbrev pub assigns_at : List Site → World → TargetData → Term → Option Place → Effects
assigns_at plan world target right None = record { write = None; action = Assigned None; told = Some effects.NoWrite }
assigns_at plan world target right (Some place) =
    writing (Assigned (Some (record { place = place; old = value_at (cells_at plan world target.owner target.name) place })))
    (write_at plan target (value plan world right) place)

abbrev pub assigns : List Site → World → TargetData → Term → Effects
assigns plan world target right = assigns_at plan world target right (place_of plan world target)

-- a command is sent with its arguments, and the index of its result is taken (PLEXIL reference manual, "Commands")
abbrev pub sends : List Site → World → List ℕ → List Term → Option TargetData → Effects
sends plan world name args result = record {
  write = None;
  action = Commanded (option_and_then index_of (option_and_then (place_of plan world) result)) None NoAbort;
  told = Some (effects.Sent name (map (value plan world) args));
}

-- an update is sent (PLEXIL reference manual, "Updates")
abbrev pub updates : List Site → World → List PairData → Effects
updates plan world pairs = record {
  write = None;
  action = Updated false;
  told = Some (effects.Updated (map (λ pair. pair.name) pairs) (map (λ pair. value plan world pair.value) pairs));
}

-- an assignment that fails writes back what it kept, where it wrote
abbrev pub writes_back : TargetData → Action → Effects
writes_back target (Assigned (Some kept)) =
    writing (Assigned (Some kept)) (record { owner = target.owner; name = target.name; place = kept.place; value = kept.old })
writes_back target action = silent action

-- a command that fails is asked to abort
abbrev pub aborts : List ℕ → Action → Effects
aborts name action = record { write = None; action = asked action; told = Some (effects.Aborted name) }
  where
    asked : Action → Action
    asked (Commanded index handle abort) = Commanded index handle AbortSent
    asked other = other

-- The table of effects, by the record of a node, the move and the body: the first row that fits. A node without a body
-- never has anything under way. (The initial values, which INACTIVE to WAITING gives too, are those of `variables_after`.)
abbrev pub row_of : List Site → World → NodeRecord → MoveKind → BodyData → Effects
row_of plan world old move Nothing = silent NoAction
row_of plan world old Initializes body = silent NoAction
row_of plan world old Resets body = silent NoAction
row_of plan world old Starts (Assign target right) = assigns plan world target right
row_of plan world old Starts (Command name args result) = sends plan world name args result
row_of plan world old Starts (Update pairs) = updates plan world pairs
row_of plan world old Fails (Assign target right) = writes_back target old.action
row_of plan world old Fails (Command name args result) = aborts name old.action
row_of plan world old move body = silent old.action

abbrev pub effects_of : List Site → World → Site → Arrival → Effects
effects_of plan world site arrival = row_of plan world old (move_kind old.state arrival.to) site.head.body
  where
    old : NodeRecord
    old = record_at world site.path

-- ---- the variables after a step

-- the initial values of a variable, UNKNOWN where none is given
abbrev pub initial_values : VariableData → List Value
initial_values variable = variable.init ++ replicate (cells_of variable - length variable.init) values.Unknown

-- the write, among those of one step, to this variable
abbrev pub write_to : List ℕ → List ℕ → List (Option Write) → Option Write
write_to owner name [] = None
write_to owner name (None ∷ writes) = write_to owner name writes
write_to owner name (Some write ∷ writes) =
    if is_same write.owner owner && is_same write.name name then Some write else write_to owner name writes

abbrev pub written : List Value → Option Write → List Value
written cells None = cells
written cells (Some write) = set cells (cell_of write.place) write.value

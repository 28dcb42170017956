-- What is gathered of a step: the turns of the nodes that go, and their moves where these are told.
use Rattle.std.specs.Prelude.{◌≡◌, ℕ, ◌+◌, ◌<◌, Bool, true, false, nat_eq, List, [], ◌∷◌, ◌++◌, Some, fold, map, length, IsTrue, if◌then◌else◌, Option}
use Rattle.std.specs.BTreeSet.{contains}
use Rattle.std.specs.List.{flat_map, filter_map, cons_option, list_any, All}
use Rattle.std.specs.Ordering.{nat_cmp}
use Rattle.std.specs.Option.{option_map}
use Rattle.px_value.specs.declared.value.Value.{Value}
use Rattle.px_value.specs.declared.value.Value.TheVariants as values
use Rattle.px_core.specs.Plan.{Site, BodyData}
use Rattle.px_sem.specs.declared.moves.Move.{Move}
use Rattle.px_sem.specs.Effects as sem
use Rattle.px_sem.specs.Effects.{Write, initial_values, cell_of}
use Rattle.px_sem.specs.Step.{initializes, move_of}
use Rattle.px_sem.specs.World.{Action}
use Rattle.px_flat.specs.declared.act.Abort.TheVariants as aborts
use Rattle.px_flat.specs.declared.act.Act.{Act}
use Rattle.px_flat.specs.declared.act.Act.TheVariants as acts
use Rattle.px_flat.specs.Layout.{first_cell, handle_cell, acknowledgement_cell}
use Rattle.px_flat.specs.Numbered.{held, place_of}
use Rattle.px_flat.specs.Parts.{action_in, act_of, fits}
use Rattle.px_flat.specs.Row.{site_in}
use Rattle.px_micro.specs.declared.effects.CellWrite.{CellWrite}
use Rattle.px_micro.specs.declared.effects.Effects.{Effects}
use Rattle.px_micro.specs.declared.effects.UnderWay.{UnderWay}
use Rattle.px_micro.specs.declared.effects.UnderWay.TheVariants as under_way
use Rattle.px_parts.specs.declared.parts.Parts.{Parts}
use Rattle.px_micro.specs.declared.sight.Going.{Going}
use Rattle.px_micro.specs.declared.turns.CellValue.{CellValue}
use Rattle.px_micro.specs.declared.turns.Turn.{Turn}
use Rattle.px_micro.specs.declared.turns.Turns.{Turns}
use Rattle.px_parts.specs.Parts.{plan_in, world_in, record_of}

-- a write in cells: the first cell of the variable, the cell that is written, and the value
abbrev pub in_cells : List Site → Write → CellWrite
in_cells plan write = record {
  variable = (place_of plan write.owner write.name).first;
  cell = (place_of plan write.owner write.name).first + cell_of write.place;
  value = write.value;
}

-- what is under way after a move, by what was
abbrev pub act_then : UnderWay → Act → Act
act_then under_way.Kept old = old
act_then (under_way.Begun act) old = act
act_then (under_way.Aborting index) old = acts.Sent index aborts.Sent

-- of a node
abbrev pub act_after : Parts → ℕ → UnderWay → Act
act_after parts node way = act_then way (act_of parts.actions.contents.values node)

-- nothing was said so far of what has begun
abbrev pub action_after : Parts → ℕ → UnderWay → Action
action_after parts node (under_way.Begun act) = action_in act values.Unknown (values.Boolean false)
action_after parts node other = action_in (act_after parts node other)
    (held parts.cells.contents.values (handle_cell (plan_in parts) node))
    (held parts.cells.contents.values (acknowledgement_cell (plan_in parts) node))

abbrev pub effects_in : Parts → Going → sem.Effects
effects_in parts going = sem.effects_of (plan_in parts) (world_in parts) (site_in (plan_in parts) going.node) going.arrival

-- what a node that goes writes
abbrev pub written_in : Parts → Going → Option CellWrite
written_in parts one = option_map (in_cells (plan_in parts)) (effects_in parts one).write

-- what is made has these effects at a node with this body
pub record IsDone (parts : Parts) (node : ℕ) (body : BodyData) (made : Effects) (effects : sem.Effects) : Type 0 where
  pub write : made.write ≡ option_map (in_cells (plan_in parts)) effects.write
  pub action : action_after parts node made.under_way ≡ effects.action
  pub fits : IsTrue (fits (plan_in parts) body (act_after parts node made.under_way))
  pub told : made.told ≡ effects.told

-- it has those of a node's move
abbrev pub AreEffects : Parts → Going → Effects → Type 0
AreEffects parts going made =
    IsDone parts going.node (site_in (plan_in parts) going.node).head.body made (effects_in parts going)

-- whether a node begins to wait
abbrev pub begins : Parts → Going → Bool
begins parts one = initializes (record_of parts one.node) (Some one.arrival)

-- the initial values of a node's variables
abbrev pub initial_of : List Site → ℕ → List Value
initial_of plan node = flat_map initial_values (site_in plan node).head.variables

-- the initial values of a node that begins to wait, cell by cell
abbrev pub from_cell : ℕ → List Value → List CellValue
from_cell cell [] = []
from_cell cell (value ∷ values) = record { cell = cell; value = value } ∷ from_cell (cell + 1) values

abbrev pub initial_in : Parts → Going → List CellValue
initial_in parts going =
    if begins parts going then from_cell (first_cell (plan_in parts) going.node) (initial_of (plan_in parts) going.node) else []

-- one of these writes is of the variable
abbrev pub is_written : List CellWrite → ℕ → Bool
is_written writes variable = list_any (λ other. nat_eq variable other.variable) writes

-- of the writes of one variable the first counts
abbrev pub with_write : List CellWrite → CellWrite → List CellWrite
with_write writes write = if is_written writes write.variable then writes else writes ++ write ∷ []

abbrev pub first_writes : List CellWrite → List CellWrite
first_writes writes = fold with_write [] writes

-- it is known which variables are written
abbrev pub KnowsWritten : Turns → Type 0
KnowsWritten made = (variable : ℕ) → contains nat_cmp made.written variable ≡ is_written made.writes.items variable

-- nothing is gathered
pub record IsOfNoStep (made : Turns) : Type 0 where
  pub writes : made.writes.items ≡ []
  pub initial : made.initial.items ≡ []
  pub turns : made.turns.items ≡ []
  pub moves : made.moves.items ≡ []
  pub written : KnowsWritten made

-- one turn does what a node's move does, its variables apart
pub record IsTurn (parts : Parts) (turn : Turn) : Type 0 where
  pub within : turn.going.node < length (plan_in parts)
  pub action : action_after parts turn.going.node turn.under_way ≡ (effects_in parts turn.going).action
  pub fits : IsTrue (fits (plan_in parts) (site_in (plan_in parts) turn.going.node).head.body
      (act_after parts turn.going.node turn.under_way))

-- these are the turns of the nodes that go
pub record AreTurns (parts : Parts) (going : List Going) (made : Turns) : Type 0 where
  pub writes : made.writes.items
      ≡ first_writes (filter_map (written_in parts) going)
  pub initial : made.initial.items ≡ flat_map (initial_in parts) going
  pub goers : map (λ turn. turn.going) made.turns.items ≡ going
  pub each : All (IsTurn parts) made.turns.items

-- the moves of the nodes that go, where they are told
abbrev pub moves_told : Parts → Bool → List Going → List Move
moves_told parts true going =
    map (λ one. move_of (plan_in parts) (world_in parts) (site_in (plan_in parts) one.node) one.arrival) going
moves_told parts false going = []

-- one more node goes
pub record IsAdded (parts : Parts) (going : Going) (old new : Turns) : Type 0 where
  pub turn : Turn
  pub is : IsTurn parts turn
  pub goes : turn.going ≡ going
  pub turns : new.turns.items ≡ old.turns.items ++ turn ∷ []
  pub writes : new.writes.items ≡ fold with_write old.writes.items (cons_option (written_in parts going) [])
  pub initial : new.initial.items ≡ old.initial.items ++ initial_in parts going

-- The micro step: all nodes that go move at once, each judged by the world before it.
use Rattle.std.specs.Prelude.{Bool, false, List, Option, Some, None, map, if◌then◌else◌}
use Rattle.std.specs.List.{filter_map, zip}
use Rattle.std.specs.Option.{option_map, option_and_then}
use Rattle.px_value.specs.declared.value.Value.{Value}
use Rattle.px_core.specs.Plan.{Site, VariableData}
use Rattle.px_sem.specs.declared.guards.Arrival.{Arrival}
use Rattle.px_sem.specs.declared.moves.Move.{Move}
use Rattle.px_sem.specs.World.{World, NodeRecord, record_at}
use Rattle.px_sem.specs.Conflicts.{transition}
use Rattle.px_sem.specs.Effects.{move_kind, is_initializing, Write, effects_of, initial_values, write_to, written}

-- what a node writes
abbrev pub own_write : List Site → World → Site → Option Write
own_write plan world site =
    option_and_then (λ arrival. (effects_of plan world site arrival).write) (transition plan world site)

-- what each node writes, in preorder
abbrev pub step_writes : List Site → World → List (Option Write)
step_writes plan world = map (own_write plan world) plan

-- whether a node goes from INACTIVE to WAITING
abbrev pub initializes : NodeRecord → Option Arrival → Bool
initializes r None = false
initializes r (Some arrival) = is_initializing (move_kind r.state arrival.to)

-- What a variable of a node holds after a step that writes it or not, with what it held before. At most one node that goes
-- writes a variable in a world that a run reaches; elsewhere the first in preorder counts.
abbrev pub written_in_step : List Site → World → Site → VariableData × List Value → List Value
written_in_step plan world site variable =
    written variable.1 (write_to site.path variable.0.name (step_writes plan world))

-- The values of a node's variables: the initial ones where the node begins to wait, else as the step writes them.
abbrev pub variables_by : List Site → World → Site → Bool → List (List Value)
variables_by plan world site begins =
    if begins then map initial_values site.head.variables
    else map (written_in_step plan world site) (zip site.head.variables (record_at world site.path).variables)

abbrev pub variables_after : List Site → World → Site → Option Arrival → List (List Value)
variables_after plan world site arrival = variables_by plan world site (initializes (record_at world site.path) arrival)

-- the record of a node after one step
abbrev pub record_after : List Site → World → Site → Option Arrival → NodeRecord
record_after plan world site None = record {
  state = (record_at world site.path).state;
  outcome = (record_at world site.path).outcome;
  failure = (record_at world site.path).failure;
  variables = variables_after plan world site None;
  action = (record_at world site.path).action;
}
record_after plan world site (Some arrival) = record {
  state = arrival.to;
  outcome = arrival.outcome;
  failure = arrival.failure;
  variables = variables_after plan world site (Some arrival);
  action = (effects_of plan world site arrival).action;
}

-- and wherever its row leads
abbrev pub next_record : List Site → World → Site → NodeRecord
next_record plan world site = record_after plan world site (transition plan world site)

-- the world after one step, node by node: the micro relation of the small-step semantics
abbrev pub micro : List Site → World → World
micro plan world = record {
  nodes = map (λ site. (site.path, next_record plan world site)) plan;
  reports = world.reports;
}

-- a node's part of a step, as it is told: the atomic relation of the small-step semantics
abbrev pub move_of : List Site → World → Site → Arrival → Move
move_of plan world site arrival = record {
  node = site.path;
  from = (record_at world site.path).state;
  to = arrival.to;
  outcome = arrival.outcome;
  failure = arrival.failure;
  effect = (effects_of plan world site arrival).told;
}

-- the moves of one step, in preorder
abbrev pub moves : List Site → World → List Move
moves plan world = filter_map (λ site. option_map (move_of plan world site) (transition plan world site)) plan

-- What it is to take an event: cells and acts stand for the world that the semantics has after it.
use Rattle.std.specs.Prelude.{◌≡◌, ℕ, List, Option, Some, None}
use Rattle.px_value.specs.declared.value.Value.{Value}
use Rattle.px_core.specs.Plan.{Site}
use Rattle.px_event.specs.declared.event.Event.{Event}
use Rattle.px_event.specs.declared.event.Event.TheVariants as events
use Rattle.px_sem.specs.Events.{take}
use Rattle.px_sem.specs.World.{LookState, Report}
use Rattle.px_cells.specs.Marked.{Contents}
use Rattle.px_flat.specs.declared.act.Act.{Act}
use Rattle.px_flat.specs.Parts.{IsParts, world_of}

-- the nodes of the world are those after the event, whatever was reported
abbrev pub HasTaken : List Site → Event → List Value → List Act → List Value → List Act → Type 0
HasTaken plan event cells acts new_cells new_acts = (reports : List (LookState × Report))
    → (world_of plan new_cells reports new_acts).nodes ≡ (take plan (world_of plan cells reports acts) event).nodes

-- the parts have taken an event and stand for a world again; what is marked stays
pub record IsTaken (plan : List Site) (event : Event) (cells : Contents Value) (acts : Contents Act)
    (new_cells : Contents Value) (new_acts : Contents Act) : Type 0 where
  pub nodes : HasTaken plan event cells.values acts.values new_cells.values new_acts.values
  pub parts : IsParts plan new_cells.values new_acts.values
  pub cells_marked : new_cells.marked ≡ cells.marked
  pub acts_marked : new_acts.marked ≡ acts.marked

-- ---- of which node an event tells

-- a report tells of none
abbrev pub path_of : Event → Option (List ℕ)
path_of (events.Report name args value) = None
path_of (events.Handle node handle) = Some node
path_of (events.Return node value) = Some node
path_of (events.AbortDone node) = Some node
path_of (events.Acknowledged node) = Some node

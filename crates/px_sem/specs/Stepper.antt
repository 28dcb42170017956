-- What a stepper stands for, and what its calls do.
use Rattle.std.specs.Prelude.{◌≡◌, ◌⊎◌, ℕ, ◌≤◌, Bool, true, false, List, []}
use Rattle.px_core.specs.Plan.{Site}
use Rattle.px_event.specs.declared.event.Event.{Event as Posted}
use Rattle.px_sem.specs.declared.moves.Move.{Move}
use Rattle.px_sem.specs.World.{World, initial_world}
use Rattle.px_sem.specs.Conflicts.{is_quiet}
use Rattle.px_sem.specs.Events.{take}
use Rattle.px_sem.specs.Run.{after_steps, step_limit}
use Rattle.px_sem.specs.Step.{micro, moves}

-- what is begun: nothing, event 0, or an event, with the settled world before it
pub data Pending : Type 0 where
  Nothing : Pending
  Start : Pending
  Event : (settled : World) → Pending

abbrev pub is_pending : Pending → Bool
is_pending Nothing = false
is_pending Start = true
is_pending (Event settled) = true

abbrev pub is_event : Pending → Bool
is_event Nothing = false
is_event Start = false
is_event (Event settled) = true

-- the nodes of the plan in preorder, the world, and what is begun in it
pub record State : Type 0 where
  pub nodes : List Site
  pub world : World
  pub pending : Pending

-- no node has begun, and event 0 is
abbrev pub fresh : List Site → State
fresh plan = record { nodes = plan; world = initial_world plan; pending = Start }

-- a settled world, in which nothing is begun
abbrev pub settled_state : List Site → World → State
settled_state plan world = record { nodes = plan; world = world; pending = Nothing }

-- an event is taken
abbrev pub with_event : State → Posted → State
with_event s event = record { nodes = s.nodes; world = take s.nodes s.world event; pending = Event s.world }

-- one micro step more
abbrev pub stepped : State → State
stepped s = record { nodes = s.nodes; world = micro s.nodes s.world; pending = s.pending }

-- back in the world before the event
abbrev pub given_up : State → State
given_up s = back s.pending
  where
    back : Pending → State
    back Nothing = s
    back Start = s
    back (Event settled) = settled_state s.nodes settled

-- Where it answers true, the world was not quiet, and took one micro step with these moves; else nothing changed.
abbrev pub Steps : State → State → List Move → Bool → Type 0
Steps old new made true =
    (is_quiet old.nodes old.world ≡ false) × (new ≡ stepped old) × (made ≡ moves old.nodes old.world)
Steps old new made false = (is_quiet old.nodes old.world ≡ true) × (new ≡ old) × (made ≡ [])

-- moves that are those of before, or of one of the micro steps from a state on, of which so many are tried
abbrev pub AreOnTheWay : State → List Move → List Move → Type 0
AreOnTheWay from before now =
    (now ≡ before) ⊎ ((k : ℕ) × (k ≤ step_limit) × (now ≡ moves from.nodes (after_steps from.nodes from.world k)))

-- What a condition of a script asks.
use Rattle.std.specs.Prelude.{◌≡◌, ◌≤◌, List, length, Some}
use Rattle.px_core.specs.Plan.{Site}
use Rattle.px_event.specs.declared.cond.Cond.{Cond}
use Rattle.px_event.specs.declared.cond.Cond.TheVariants.{State, Events}
use Rattle.px_event.specs.declared.entry.Entry.{Entry}
use Rattle.px_sem.specs.Log.{events_of}
use Rattle.px_sem.specs.Run.{run}
use Rattle.px_sem.specs.World.{World, known_state}

-- the condition holds of a history and the run over it
abbrev pub Holds : List Entry → World → Cond → Type 0
Holds history world (State node state) = known_state world node ≡ Some state
Holds history world (Events least) = least ≤ length history

-- behind a history, by the run over it, the condition holds
abbrev pub IsMetBehind : List Site → List Entry → Cond → Type 0
IsMetBehind plan history cond =
    (world : World) × (run plan (events_of history) ≡ Some world) × Holds history world cond

-- or it doesn't
abbrev pub IsUnmetBehind : List Site → List Entry → Cond → Type 0
IsUnmetBehind plan history cond =
    (world : World) × (run plan (events_of history) ≡ Some world) × (Holds history world cond → ⊥)

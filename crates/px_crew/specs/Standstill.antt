-- The waits at which threads stand, and what they come to then.
use Rattle.std.specs.Prelude.{◌≡◌, ◌≢◌, ◌⊎◌, ℕ, List, [], ◌∷◌, ◌++◌, length, Option, Some, None}
use Rattle.std.specs.List.{slice_get}
use Rattle.std.specs.Option.{option_and_then, option_to_list}
use Rattle.px_core.specs.Plan.{Site}
use Rattle.px_event.specs.declared.cond.Cond.{Cond}
use Rattle.px_event.specs.declared.entry.Entry.{Entry}
use Rattle.px_script.specs.declared.crew_end.CrewEnd.{CrewEnd}
use Rattle.px_script.specs.declared.crew_end.CrewEnd.TheVariants as ends
use Rattle.px_script.specs.declared.line.Line.{Line}
use Rattle.px_script.specs.declared.line.What.{What}
use Rattle.px_script.specs.declared.line.What.TheVariants as whats
use Rattle.px_script.specs.declared.stall.Stall.{Stall}
use Rattle.px_script.specs.declared.todo.Todo.{Todo}
use Rattle.px_sem.specs.Asking.{IsUnmetBehind}
use Rattle.px_sem.specs.Log.{Log, accepted}

-- a thread's next line is a wait
abbrev pub IsWait : Todo → ℕ → Cond → Type 0
IsWait todo place cond =
    (number : ℕ) × (slice_get todo.lines place ≡ Some (record { number = number; what = whats.Wait cond }))

-- a thread goes no further from a place: no line is left, or the next one waits for what isn't met
abbrev pub IsHeld : List Site → List Entry → Log → Todo → ℕ → Type 0
IsHeld plan first log todo place =
    (place ≡ length todo.lines)
    ⊎ ((cond : Cond) × IsWait todo place cond × IsUnmetBehind plan (first ++ accepted log) cond)

-- a thread's wait, if the line is one
abbrev pub wait_of : ℕ → Line → Option Stall
wait_of thread line = by line.what
  where
    by : What → Option Stall
    by (whats.Post event) = None
    by (whats.Wait cond) = Some (record { thread = thread; line = line.number; cond = cond })

-- the wait at a place of a thread, if its line there is one
abbrev pub wait_at : Todo → ℕ → Option Stall
wait_at todo place = option_and_then (wait_of todo.thread) (slice_get todo.lines place)

-- those of the threads, in their order
abbrev pub waits_of : List Todo → List ℕ → List Stall
waits_of [] places = []
waits_of (todo ∷ threads) [] = []
waits_of (todo ∷ threads) (place ∷ places) = option_to_list (wait_at todo place) ++ waits_of threads places

-- the threads are stalled at these waits, or done where there are none; or memory ran out
abbrev pub IsStandstill : List Todo → List ℕ → CrewEnd → Type 0
IsStandstill threads places ends.Done = waits_of threads places ≡ []
IsStandstill threads places (ends.Stalled waits) = (waits.items ≡ waits_of threads places) × (waits.items ≢ [])
IsStandstill threads places ends.Disk = ⊥
IsStandstill threads places ends.NoMemory = Unit {0}

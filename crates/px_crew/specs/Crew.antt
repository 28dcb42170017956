-- What the work of a script's threads over an executive comes to.
use Rattle.std.specs.Prelude.{◌≡◌, ◌≢◌, ◌≤◌, ◌<◌, ◌⊎◌, ℕ, List, [], ◌++◌, length, slice_index, slice_index_or, Option, Some, None}
use Rattle.px_core.specs.Plan.{Site}
use Rattle.px_event.specs.declared.cond.Cond.{Cond}
use Rattle.px_event.specs.declared.entry.Entry.{Entry}
use Rattle.px_exec.specs.Executive.{Executive}
use Rattle.px_script.specs.Follows.{GoesThrough, HasOnly, Follows, GoesThroughAll, AreStalled, IsNextPost}
use Rattle.px_script.specs.declared.crew_end.CrewEnd.{CrewEnd}
use Rattle.px_script.specs.declared.crew_end.CrewEnd.TheVariants as ends
use Rattle.px_script.specs.declared.todo.Todo.{Todo}
use Rattle.px_sem.specs.Asking.{IsMetBehind}
use Rattle.px_sem.specs.Log.{Log, accepted}
use Rattle.px_crew.specs.Seat.{entry_in}
use Rattle.px_crew.specs.Standstill.{waits_of, IsWait, IsHeld}

-- the entry of an executive's failed append
abbrev pub failed_entry : {S D : Type 0} → Executive S D → Option Entry
failed_entry exec = entry_in exec.failed

-- the log goes through so many lines of each thread, and has nothing else
pub record AreAt (plan : List Site) (first : List Entry) (log : Log) (threads : List Todo) (places : List ℕ) : Type 0 where
  pub same : length places ≡ length threads
  pub within : (i : ℕ) (d : Todo) → i < length threads → slice_index places i ≤ length (slice_index_or threads i d).lines
  pub each : (i : ℕ) (d : Todo) → i < length threads → GoesThrough plan first log (slice_index_or threads i d) (slice_index places i)
  pub only : HasOnly threads log

-- THE ENDS: all lines are passed; or the threads are stalled at these waits; or an append failed, of the next post of one of
-- them; or memory ran out. In each case the log follows the threads.
abbrev pub Ends : List Site → List Entry → Log → List Todo → Option Entry → CrewEnd → Type 0
Ends plan first log threads failed ends.Done = (failed ≡ None) × GoesThroughAll plan first log threads
Ends plan first log threads failed (ends.Stalled waits) = (failed ≡ None) × AreStalled plan first log threads waits.items
Ends plan first log threads failed ends.Disk =
    (entry : Entry) × (failed ≡ Some entry) × Follows plan first log threads × IsNextPost plan first log threads entry
Ends plan first log threads failed ends.NoMemory = (failed ≡ None) × Follows plan first log threads

-- a thread's next line is a wait, or it has none left
abbrev pub IsWaiting : Todo → ℕ → Type 0
IsWaiting todo place = (place ≡ length todo.lines) ⊎ ((cond : Cond) × IsWait todo place cond)

-- of each that is so
abbrev pub AreWaiting : List Todo → List ℕ → Type 0
AreWaiting threads places =
    (i : ℕ) (d : Todo) → i < length threads → IsWaiting (slice_index_or threads i d) (slice_index places i)

-- WHAT THE WORK OVER ONE DESK COMES TO, with all seats gathered again: to an end; or every thread that has lines left stands
-- at a wait, which wasn't met behind what its own seat had seen, and is to be asked again.
abbrev pub Comes : List Site → List Entry → Log → List Todo → List ℕ → Option Entry → CrewEnd → Type 0
Comes plan first log threads places failed ends.Done = Ends plan first log threads failed ends.Done
Comes plan first log threads places failed (ends.Stalled waits) =
    (failed ≡ None) × AreAt plan first log threads places × AreWaiting threads places
    × (waits.items ≡ waits_of threads places) × (waits.items ≢ [])
Comes plan first log threads places failed ends.Disk = Ends plan first log threads failed ends.Disk
Comes plan first log threads places failed ends.NoMemory = Ends plan first log threads failed ends.NoMemory

-- a thread's next line is a wait that is met by now
abbrev pub IsOver : List Site → List Entry → Log → Todo → ℕ → Type 0
IsOver plan first log todo place =
    (cond : Cond) × IsWait todo place cond × IsMetBehind plan (first ++ accepted log) cond

-- the first of the threads of which that is so; or of none
abbrev pub Wakes : List Site → List Entry → Log → List Todo → List ℕ → Option ℕ → Type 0
Wakes plan first log threads places (Some i) =
    (i < length threads) × ((d : Todo) → IsOver plan first log (slice_index_or threads i d) (slice_index places i))
Wakes plan first log threads places None = AreWaiting threads places → (i : ℕ) (d : Todo) → i < length threads
    → IsHeld plan first log (slice_index_or threads i d) (slice_index places i)

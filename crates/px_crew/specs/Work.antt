-- What the work of a script's threads over a desk comes to, each by a worker of its own.
use Rattle.std.specs.Prelude.{◌≡◌, ◌≢◌, ◌≤◌, ◌<◌, ℕ, List, [], map, length, slice_index_or, Result, Ok, Err}
use Rattle.std.specs.List.{zip, All, Contains}
use Rattle.px_script.specs.declared.crew_end.CrewEnd.{CrewEnd}
use Rattle.px_script.specs.declared.crew_end.CrewEnd.TheVariants as ends
use Rattle.px_script.specs.declared.todo.Todo.{Todo}
use Rattle.px_script.specs.declared.worker.WorkEnd.{WorkEnd}
use Rattle.px_script.specs.declared.worker.WorkEnd.TheVariants as works
use Rattle.px_script.specs.declared.worker.Worker.{Worker}
use Rattle.px_desk.specs.Listing.{Start}
use Rattle.px_desk.specs.Seating.{Seating, HasMade}
use Rattle.px_crew.specs.Board.{Board}
use Rattle.px_crew.specs.Seat.{board_of, HasGoneOn}
use Rattle.px_crew.specs.Standstill.{waits_of, IsHeld}
use Rattle.px_crew.specs.Walk.{Walked}
use Rattle.px_crew.specs.declared.walking.Stop.{Stop}
use Rattle.px_crew.specs.declared.walking.Stop.TheVariants as stops

-- the end of a walk leaves a worker so: at a wait it goes on later
abbrev pub work_end : Result Unit Stop → WorkEnd
work_end (Ok done) = works.Going
work_end (Err stops.Waits) = works.Going
work_end (Err stops.Disk) = works.Disk
work_end (Err stops.NoMemory) = works.NoMemory

-- the end of the threads, by those of their workers: goes on only where all do
abbrev pub IsEndOf : {S : Type 0} → List (Worker S) → WorkEnd → Type 0
IsEndOf {S} workers works.Going = All (λ (w : Worker S). w.end ≡ works.Going) workers
IsEndOf {S} workers works.Disk = (w : Worker S) × Contains workers w × (w.end ≡ works.Disk)
IsEndOf {S} workers works.NoMemory = All (λ (w : Worker S). w.end ≢ works.Disk) workers

-- with seats and places, a worker each that goes on
abbrev pub workers_of : {S : Type 0} → List S → List ℕ → List (Worker S)
workers_of {S} seats places = map (λ (one : S × ℕ). record { seat = one.0; at = one.1; end = works.Going }) (zip seats places)

-- how many lines are passed of each thread
abbrev pub places_of : {S : Type 0} → List (Worker S) → List ℕ
places_of workers = map (λ w. w.at) workers

module _ {S : Type 0} (start : Start) (fits : S → Type 0) (seating : S → Seating) where
  -- A worker that can go on: with a seat of the desk, which made just the entries that carry its number
  pub record IsReady (todo : Todo) (worker : Worker S) : Type 0 where
    pub own : fits worker.seat
    pub made : HasMade (seating worker.seat)
    pub going : worker.end ≡ works.Going
    pub within : worker.at ≤ length todo.lines

  -- what a worker's seat shows
  abbrev pub board : Worker S → Board
  board worker = board_of start (seating worker.seat)

  -- A WORKER HAS WORKED: it has walked its thread's lines from its old place to the new one, and its end says why no further.
  pub record HasWorked (todo : Todo) (old new : Worker S) : Type 0 where
    pub own : fits new.seat
    pub on : HasGoneOn (seating old.seat) (seating new.seat)
    pub end : Result Unit Stop
    pub walked : Walked todo old.at (board old) (board new) (record { at = new.at; end = end })
    pub says : new.end ≡ work_end end

  -- of one of the threads
  abbrev pub IsReadyAt : List Todo → ℕ → Worker S → Type 0
  IsReadyAt threads i worker = (d : Todo) → IsReady (slice_index_or threads i d) worker

  abbrev pub HasWorkedAt : List Todo → ℕ → Worker S → Worker S → Type 0
  HasWorkedAt threads i old new = (d : Todo) → i < length threads → HasWorked (slice_index_or threads i d) old new

  -- one for each thread, in order
  pub record AreReady (threads : List Todo) (workers : List (Worker S)) : Type 0 where
    pub same : length workers ≡ length threads
    pub each : (i : ℕ) (d : Todo) (e : Worker S) → i < length threads
        → IsReady (slice_index_or threads i d) (slice_index_or workers i e)

  pub record HaveWorked (threads : List Todo) (old new : List (Worker S)) : Type 0 where
    pub same : length new ≡ length old
    pub each : (i : ℕ) (d : Todo) (e : Worker S) → i < length threads
        → HasWorked (slice_index_or threads i d) (slice_index_or old i e) (slice_index_or new i e)

  -- no line is left of any
  abbrev pub AreThrough : List Todo → List (Worker S) → Type 0
  AreThrough threads workers = (i : ℕ) (d : Todo) (e : Worker S) → i < length threads
      → (slice_index_or workers i e).at ≡ length (slice_index_or threads i d).lines

  -- each has no line left, or stands at a wait that isn't met behind what its seat has seen
  abbrev pub AreHeld : List Todo → List (Worker S) → Type 0
  AreHeld threads workers = (i : ℕ) (d : Todo) (e : Worker S) → i < length threads
      → IsHeld start.plan start.first (board (slice_index_or workers i e)).log (slice_index_or threads i d)
      (slice_index_or workers i e).at

  -- THE ENDS: all lines are passed; or some are left, and these are the waits at which their workers stand; or a worker has
  -- met the failure of an append; or memory ran out.
  abbrev pub ComesTo : List Todo → List (Worker S) → CrewEnd → Type 0
  ComesTo threads workers ends.Done = IsEndOf workers works.Going × AreThrough threads workers
  ComesTo threads workers (ends.Stalled waits) =
      IsEndOf workers works.Going × AreHeld threads workers
      × (waits.items ≡ waits_of threads (places_of workers)) × (waits.items ≢ [])
  ComesTo threads workers ends.Disk = IsEndOf workers works.Disk
  ComesTo threads workers ends.NoMemory = IsEndOf workers works.NoMemory

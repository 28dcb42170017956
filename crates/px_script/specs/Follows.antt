-- How a log goes through the lines that a history has left of a script: whether it follows them, goes through all, or
-- stalls. A place in a log is the number of the entries before it.
use Rattle.std.specs.Prelude.{◌≡◌, ◌≢◌, ◌≤◌, ◌+◌, ℕ, List, [], ◌∷◌, ◌++◌, length, take, All, Some}
use Rattle.std.specs.List.{slice_get, Contains}
use Rattle.px_core.specs.Plan.{Site}
use Rattle.px_event.specs.Fit.{entry_of as posted_by}
use Rattle.px_event.specs.declared.entry.Entry.{Entry}
use Rattle.px_script.specs.Order.{thread_entries}
use Rattle.px_script.specs.Remainder.{entries_of}
use Rattle.px_script.specs.declared.line.Line.{Line}
use Rattle.px_script.specs.declared.line.What.{What}
use Rattle.px_script.specs.declared.line.What.TheVariants as whats
use Rattle.px_script.specs.declared.stall.Stall.{Stall}
use Rattle.px_script.specs.declared.todo.Todo.{Todo}
use Rattle.px_sem.specs.Asking.{IsMetBehind, IsUnmetBehind}
use Rattle.px_sem.specs.Log.{Log, accepted, posted_in}

-- the first lines of a thread, so many
abbrev pub front_of : ℕ → Todo → Todo
front_of count todo = record todo { lines = take count todo.lines }

-- each entry is of one of the threads
abbrev pub HasOnly : List Todo → Log → Type 0
HasOnly threads log =
    All (λ logged. (todo : Todo) × Contains threads todo × (todo.thread ≡ logged.entry.thread)) log

module _ (plan : List Site) (first : List Entry) (log : Log) where
  -- a thread passes a line at this place: its post stands there; or its condition is met behind the history and what was
  -- accepted before the place
  abbrev pub PassesAt : ℕ → ℕ → Line → Type 0
  PassesAt thread at line = by line.what
    where
      by : What → Type 0
      by (whats.Post event) =
          slice_get (posted_in log) at ≡ Some (posted_by thread line.number event)
      by (whats.Wait cond) = IsMetBehind plan (first ++ accepted (take at log)) cond

  -- the place behind a line that was passed at this one
  abbrev pub place_behind : ℕ → What → ℕ
  place_behind at (whats.Post event) = at + 1
  place_behind at (whats.Wait cond) = at

  -- THE WALK OF A THREAD'S LINES THROUGH THE LOG, from a place on: each line is passed at a place, and the places never go
  -- back.
  abbrev pub Walks : ℕ → ℕ → List Line → Type 0
  Walks thread from [] = from ≤ length log
  Walks thread from (line ∷ more) =
      (at : ℕ) × (from ≤ at) × PassesAt thread at line × Walks thread (place_behind at line.what) more

  -- the log goes through so many of a thread's lines: these walk through it, and it has no other entry of the thread
  pub record GoesThrough (todo : Todo) (count : ℕ) : Type 0 where
    pub walks : Walks todo.thread 0 (take count todo.lines)
    pub entries : entries_of todo.thread (posted_in log) ≡ thread_entries (front_of count todo)

  -- THE LOG FOLLOWS THE THREADS: it goes through a front of each one's lines, and has nothing else.
  pub record Follows (threads : List Todo) : Type 0 where
    pub each : All (λ todo. (count : ℕ) × GoesThrough todo count) threads
    pub only : HasOnly threads log

  -- IT GOES THROUGH ALL OF THEM: these fronts are the whole.
  pub record GoesThroughAll (threads : List Todo) : Type 0 where
    pub each : All (λ todo. GoesThrough todo (length todo.lines)) threads
    pub only : HasOnly threads log

  -- a thread stands at a wait that isn't met at the end, and has passed its lines before
  pub record StandsAt (todo : Todo) (stall : Stall) : Type 0 where
    pub count : ℕ
    pub before : GoesThrough todo count
    pub thread : stall.thread ≡ todo.thread
    pub line : slice_get todo.lines count ≡ Some (record { number = stall.line; what = whats.Wait stall.cond })
    pub unmet : IsUnmetBehind plan (first ++ accepted log) stall.cond

  -- what stops the threads, in their order: nothing where all lines of one are passed, and else the wait at which it stands
  pub data Stops : List Todo → List Stall → Type 0 where
    none : Stops [] []
    through :
        (todo : Todo) (threads : List Todo) (stalls : List Stall) → GoesThrough todo (length todo.lines)
        → Stops threads stalls → Stops (todo ∷ threads) stalls
    stands :
        (todo : Todo) (threads : List Todo) (stall : Stall) (stalls : List Stall) → StandsAt todo stall
        → Stops threads stalls → Stops (todo ∷ threads) (stall ∷ stalls)

  -- THE THREADS ARE STALLED at these waits, one of each thread that has lines left.
  pub record AreStalled (threads : List Todo) (stalls : List Stall) : Type 0 where
    pub stops : Stops threads stalls
    pub some_left : stalls ≢ []
    pub follows : Follows threads

  -- the entry is a thread's next post, as the one is whose append failed: the log goes through the lines before it
  pub record IsNextPost (threads : List Todo) (entry : Entry) : Type 0 where
    pub todo : Todo
    pub one_of : Contains threads todo
    pub thread : todo.thread ≡ entry.thread
    pub count : ℕ
    pub before : GoesThrough todo count
    pub line : slice_get todo.lines count ≡ Some (record { number = entry.line; what = whats.Post entry.event })

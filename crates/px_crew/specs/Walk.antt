-- How a thread's lines are passed.
use Rattle.std.specs.Prelude.{◌≡◌, ◌≤◌, ◌⊎◌, ℕ, ◌++◌, length, take, drop, Some, None, Result, Ok, Err, IsTrue}
use Rattle.std.specs.List.{slice_get}
use Rattle.std.specs.Option.{IfSome}
use Rattle.px_event.specs.Fit.{is_fit_entry}
use Rattle.px_event.specs.declared.cond.Cond.{Cond}
use Rattle.px_event.specs.declared.event.Event.{Event}
use Rattle.px_exec.specs.Answers.{entry_of}
use Rattle.px_script.specs.Follows.{Walks}
use Rattle.px_script.specs.Order.{entry_of as posted_by, thread_entries}
use Rattle.px_script.specs.declared.line.Line.{Line}
use Rattle.px_script.specs.declared.line.What.{What}
use Rattle.px_script.specs.declared.line.What.TheVariants as whats
use Rattle.px_script.specs.declared.todo.Todo.{Todo}
use Rattle.px_sem.specs.Asking.{IsMetBehind, IsUnmetBehind}
use Rattle.px_crew.specs.Board.{Board, history_on, IsLater, IsLooked, IsAnswered, IsBroken, FindsBroken}
use Rattle.px_crew.specs.declared.walking.Stop.{Stop}
use Rattle.px_crew.specs.declared.walking.Stop.TheVariants as stops
use Rattle.px_crew.specs.declared.walking.Reach.{Reach}

-- what the line posts, if it posts, is fit
abbrev pub IsFitLine : ℕ → Line → Type 0
IsFitLine thread line = IfSome (posted_by thread line) (λ entry. IsTrue (is_fit_entry entry))

-- the line is passed: its event is answered, or its condition holds behind all that is shown
abbrev pub PassesLine : ℕ → Line → Board → Board → Type 0
PassesLine thread line old new = by line.what
  where
    by : What → Type 0
    by (whats.Post event) = IsAnswered old new (entry_of thread line.number event)
    by (whats.Wait cond) = IsLooked old new × IsMetBehind new.plan (history_on new) cond

-- the thread stops at the line: its condition doesn't hold, its append failed, an append had failed, or memory ran out where
-- none had
abbrev pub StopsAt : ℕ → Line → Board → Board → Stop → Type 0
StopsAt thread line old new stops.Waits =
    (cond : Cond) × (line.what ≡ whats.Wait cond) × IsLooked old new × IsUnmetBehind new.plan (history_on new) cond
StopsAt thread line old new stops.Disk =
    (event : Event) × (line.what ≡ whats.Post event)
    × (IsBroken old new (entry_of thread line.number event) ⊎ FindsBroken old new)
StopsAt thread line old new stops.NoMemory = IsLooked old new × (new.failed ≡ None)

abbrev pub Passes : ℕ → Line → Board → Board → Result Unit Stop → Type 0
Passes thread line old new (Ok done) = PassesLine thread line old new
Passes thread line old new (Err stop) = StopsAt thread line old new stop

-- the lines of a thread between two places
abbrev pub lines_between : ℕ → ℕ → Todo → Todo
lines_between from to todo = record todo { lines = drop from (take to todo.lines) }

-- the end of a walk: all lines are passed, or it stops at the next one
abbrev pub EndsAt : Todo → ℕ → Board → Board → Result Unit Stop → Type 0
EndsAt todo at old new (Ok done) = (at ≡ length todo.lines) × (new.broke ≡ old.broke)
EndsAt todo at old new (Err stop) =
    (line : Line) × (before : Board) × (slice_get todo.lines at ≡ Some line) × (before.broke ≡ old.broke)
    × StopsAt todo.thread line before new stop

-- A WALK FROM ONE PLACE TO ANOTHER: what was made through the board is what the lines between post, and these are walked
-- through what is shown now, behind all that was shown then.
pub record Walked (todo : Todo) (from : ℕ) (old new : Board) (reach : Reach) : Type 0 where
  pub further : from ≤ reach.at
  pub within : reach.at ≤ length todo.lines
  pub later : IsLater old new
  pub made : new.made ≡ old.made ++ thread_entries (lines_between from reach.at todo)
  pub walks : Walks new.plan new.first new.log todo.thread (length old.log) (drop from (take reach.at todo.lines))
  pub ends : EndsAt todo reach.at old new reach.end

-- Logs: which answer each post gets.
use Rattle.std.specs.Prelude.{◌≡◌, ℕ, ◌+◌, Bool, true, false, nat_le, List, filter, [], ◌∷◌, ◌++◌, length, map, Option, Some, None}
use Rattle.std.specs.Option.{IsSome}
use Rattle.px_core.specs.Plan.{Site}
use Rattle.px_event.specs.declared.entry.Entry.{Entry}
use Rattle.px_event.specs.declared.event.Event.{Event}
use Rattle.px_event.specs.declared.reply.Reply.{Reply}
use Rattle.px_event.specs.declared.reply.Reply.TheVariants as replies
use Rattle.px_sem.specs.declared.log.LogEntry.{LogEntry}
use Rattle.px_sem.specs.declared.standing.Standing.{Standing}
use Rattle.px_sem.specs.declared.standing.Standing.TheVariants.{Running, Finished}
use Rattle.px_sem.specs.World.{World, standing_of}
use Rattle.px_sem.specs.Run.{run, posted}
use Rattle.px_sem.specs.Stepper.{State, settled_state}

-- a log: entries with their replies
abbrev pub Log : Type 0
Log = List LogEntry

-- an entry with its reply, as a log has it
abbrev pub logged_as : Entry → Reply → LogEntry
logged_as entry reply = record { entry = entry; reply = reply }

abbrev pub events_of : List Entry → List Event
events_of entries = map (λ entry. entry.event) entries

-- the entries of a log, in order
abbrev pub posted_in : Log → List Entry
posted_in log = map (λ logged. logged.entry) log

-- whether a reply is that the event was accepted
abbrev pub is_accepted : Reply → Bool
is_accepted (replies.Accepted position) = true
is_accepted replies.PlanFinished = false
is_accepted replies.Full = false
is_accepted replies.Runaway = false

-- the entries that were accepted
abbrev pub accepted : Log → List Entry
accepted log = posted_in (filter (λ logged. is_accepted logged.reply) log)

-- The answer to an event with so many behind it, by how the plan stands, whether its history is full, and what the event
-- settles into. The first that holds decides: the plan has finished, the history is full, the event does not settle.
abbrev pub answer_by : Standing → Bool → Option (World × ℕ) → ℕ → Reply
answer_by (Finished outcome failure) full settles count = replies.PlanFinished
answer_by Running true settles count = replies.Full
answer_by Running false None count = replies.Runaway
answer_by Running false (Some settled) count = replies.Accepted (count + 1)

abbrev pub answer : List Site → ℕ → ℕ → World → Event → Reply
answer plan limit count world event =
    answer_by (standing_of plan world) (nat_le limit count) (posted plan world event) count

-- the world after an event that was answered so
abbrev pub world_after : List Site → World → Event → Reply → World
world_after plan world event (replies.Accepted position) = of_settling (posted plan world event)
  where
    of_settling : Option (World × ℕ) → World
    of_settling None = world
    of_settling (Some settled) = settled.0
world_after plan world event replies.PlanFinished = world
world_after plan world event replies.Full = world
world_after plan world event replies.Runaway = world

-- each reply is the answer over the history then: this history, and the entries accepted since
abbrev pub AnswersEach : List Site → ℕ → List Event → Log → Type 0
AnswersEach plan limit history [] = Unit {0}
AnswersEach plan limit history (logged ∷ log) =
    ((world : World) × (run plan history ≡ Some world)
    × (logged.reply ≡ answer plan limit (length history) world logged.entry.event))
    × AnswersEach plan limit (history ++ events_of (accepted (logged ∷ []))) log

-- a front of the entries was posted from the start on, each answered as it is to be, and the world is the run over the
-- accepted ones
abbrev pub PostsPart : List Site → ℕ → List Entry → World → Type 0
PostsPart plan limit entries world =
    (log : Log) × (rest : List Entry) × (entries ≡ posted_in log ++ rest)
    × AnswersEach plan limit [] log × (run plan (events_of (accepted log)) ≡ Some world)

-- a log that goes on from a history, which may grow up to the limit
pub record IsLegal (plan : List Site) (history : List Entry) (limit : ℕ) (log : Log) : Type 0 where
  pub runs : IsSome (run plan (events_of history))
  pub answers : AnswersEach plan limit (events_of history) log

-- the entry would be accepted over the history, which may grow up to the limit
abbrev pub WouldBeAccepted : List Site → ℕ → List Entry → Entry → Type 0
WouldBeAccepted plan limit history entry =
    IsLegal plan history limit (logged_as entry (replies.Accepted (length history + 1)) ∷ [])

-- what runs the plan is settled, in the world that the run over the history is
abbrev pub HasRun : List Site → List Entry → State → Type 0
HasRun plan history now = (run plan (events_of history) ≡ Some now.world) × (now ≡ settled_state plan now.world)

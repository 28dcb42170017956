-- What an executive is, and what its type keeps from its opening on.
use Rattle.std.specs.Prelude.{◌≡◌, ◌≤◌, ◌<◌, ◌^◌, ℕ, List, [], ◌∷◌, ◌++◌, length, map, Option, Some, None, IsSome, IsTrue}
use Rattle.std.specs.Option.{option_map, option_to_list}
use Rattle.px_core.specs.Plan.{Site}
use Rattle.px_event.specs.Fit.{is_fit_entry}
use Rattle.px_event.specs.declared.entry.Entry.{Entry}
use Rattle.px_event.specs.declared.named.NamedEntry.{NamedEntry}
use Rattle.px_journal.specs.Crash.{WithOrWithout, LeavesOnly}
use Rattle.px_journal.specs.Goes.{Goes}
use Rattle.px_journal.specs.Journal.{IsReady, IsReadyAs, with_name}
use Rattle.px_journal.specs.Layout.{entries, Stands, StandsAs}
use Rattle.px_journal.specs.declared.journal.Journal.{Journal}
use Rattle.px_journal.specs.declared.version.Version.{Version}
use Rattle.px_ports.specs.Host.{Rose}
use Rattle.px_ports.specs.declared.disk.Disk
use Rattle.px_ports.specs.declared.moment.Moment.{Moment}
use Rattle.px_sem.specs.Log.{Log, IsLegal, WouldBeAccepted, accepted, events_of}
use Rattle.px_sem.specs.Run.{run}
use Rattle.px_sem.specs.Stepper.{settled_state}
use Rattle.px_sem.specs.World.{World}
use Rattle.px_sem.specs.declared.stepper.Stepper
use Rattle.px_exec.specs.declared.closing.Failed.{Failed}

-- what was handed to an opening; its journal may have been given other names before the first post
pub record Opening (S D : Type 0) : Type 0 where
  pub stepper : S
  pub journal : Journal D
  pub history : List Entry
  pub limit : ℕ

pub record Executive (S D : Type 0) : Type 0 where
  pub stepper : S
  pub journal : Journal D
  pub history : List Entry
  pub log : Log
  -- the entry whose append failed, where one did: the executive is closed then
  pub failed : Option Failed
  pub opening : Opening S D

-- the plan, and the world now
abbrev pub plan_of : {S D : Type 0} → Stepper.Ghosts S → Executive S D → List Site
plan_of runs exec = (runs.state exec.opening.stepper).nodes

abbrev pub world_of : {S D : Type 0} → Stepper.Ghosts S → Executive S D → World
world_of runs exec = (runs.state exec.stepper).world

-- the moments of the disk at the opening, and now
abbrev pub moments_then : {S D : Type 0} → Disk.Ghosts D → Executive S D → List Moment
moments_then members exec = members.moments exec.opening.journal.disk

abbrev pub moments_now : {S D : Type 0} → Disk.Ghosts D → Executive S D → List Moment
moments_now members exec = members.moments exec.journal.disk

-- the journal of the opening stood for this text
abbrev pub IsTextOf : {S D : Type 0} → Disk.Ghosts D → Executive S D → List ℕ → Type 0
IsTextOf members exec text = IsReady members exec.opening.journal text exec.opening.history

-- the disk tells its bytes
abbrev pub TellsBytes : {D : Type 0} → Disk.Ghosts D → D → Type 0
TellsBytes members disk = IsSome (members.content disk)

-- the bytes stand for the text and a front of a history, which has all that was there at first
pub record StandsWithin (text : List ℕ) (first history : List Entry) (bytes : List ℕ) : Type 0 where
  pub more : List Entry
  pub rest : List Entry
  pub front : history ≡ (first ++ more) ++ rest
  pub stands : Stands bytes text (first ++ more)

-- each image since the opening stands for the text and such a front, where the disk told its bytes then
abbrev pub KeepsSinceOpening : {S D : Type 0} → Disk.Ghosts D → Executive S D → List Entry → Type 0
KeepsSinceOpening members exec history = TellsBytes members exec.opening.journal.disk → (text : List ℕ) → IsTextOf members exec text
    → LeavesOnly members.images (StandsWithin text exec.opening.history history) (moments_then members exec)
    (moments_now members exec)

-- no append has failed
pub record IsOpen {S D : Type 0} (members : Disk.Ghosts D) (exec : Executive S D) : Type 0 where
  pub stands : (text : List ℕ) → IsTextOf members exec text → IsReady members exec.journal text exec.history
  pub since : KeepsSinceOpening members exec exec.history

-- this append has failed: a crash now leaves the history with the entry or without it
pub record IsClosed {S D : Type 0} (runs : Stepper.Ghosts S) (members : Disk.Ghosts D) (exec : Executive S D)
    (failed : Failed) : Type 0 where
  pub fit : IsTrue (is_fit_entry failed.entry)
  pub due : WouldBeAccepted (plan_of runs exec) exec.opening.limit exec.history failed.entry
  pub settles : IsSome (run (plan_of runs exec) (events_of (exec.history ++ failed.entry ∷ [])))
  pub rose : Rose (members.faults exec.opening.journal.disk) failed.faults
  pub counted : failed.faults ≤ members.faults exec.journal.disk
  pub now : TellsBytes members exec.opening.journal.disk → (text : List ℕ) → IsTextOf members exec text → (image : List ℕ)
      → members.images (moments_now members exec) image → WithOrWithout text exec.history failed.entry image
  pub since : KeepsSinceOpening members exec (exec.history ++ failed.entry ∷ [])

abbrev pub KeepsDisk : {S D : Type 0} → Stepper.Ghosts S → Disk.Ghosts D → Executive S D → Option Failed → Type 0
KeepsDisk runs members exec None = IsOpen members exec
KeepsDisk runs members exec (Some failed) = IsClosed runs members exec failed

-- the journal of the opening stood for this text, and for the history then with these names
abbrev pub WasNamed : {S D : Type 0} → Disk.Ghosts D → Executive S D → List ℕ → List NamedEntry → Type 0
WasNamed members exec text found =
    IsReadyAs members exec.opening.journal text found × (entries found ≡ exec.opening.history)

-- the entry of a failed append, or none
abbrev pub failed_entries : Option Failed → List Entry
failed_entries failed = option_to_list (option_map (λ f. f.entry) failed)

-- what was accepted since the opening, and the entry of a failed append: each with the name that the journal gives its
-- thread
abbrev pub named_since : {S D : Type 0} → Executive S D → List NamedEntry
named_since exec = map (with_name exec.opening.journal) (accepted exec.log ++ failed_entries exec.failed)

-- the bytes stand for the text, for all that was found at first with the names that it had, and for a front of the rest
pub record StandsNamed (version : Version) (text : List ℕ) (found since : List NamedEntry) (bytes : List ℕ) : Type 0 where
  pub more : List NamedEntry
  pub rest : List NamedEntry
  pub front : since ≡ more ++ rest
  pub stands : StandsAs version bytes text (found ++ more)

-- WHAT AN EXECUTIVE KEEPS OF NAMES: the version of its journal and the names that entries get are those of the opening, and
-- each image since then has the entries found with the names that they had, and the later ones with those of their threads
pub record KeepsNaming {S D : Type 0} (members : Disk.Ghosts D) (exec : Executive S D) : Type 0 where
  pub version : exec.journal.version ≡ exec.opening.journal.version
  pub names : exec.journal.names ≡ exec.opening.journal.names
  pub stands : exec.failed ≡ None → (text : List ℕ) (found : List NamedEntry) → WasNamed members exec text found
      → IsReadyAs members exec.journal text (found ++ named_since exec)
  pub since : TellsBytes members exec.opening.journal.disk → (text : List ℕ) (found : List NamedEntry)
      → WasNamed members exec text found
      → LeavesOnly members.images (StandsNamed exec.opening.journal.version text found (named_since exec))
      (moments_then members exec) (moments_now members exec)

-- WHAT AN EXECUTIVE KEEPS OF ITS OPENING, as long as it is there
pub record Keeps {S D : Type 0} (runs : Stepper.Ghosts S) (members : Disk.Ghosts D) (exec : Executive S D) :
    Type 0 where
  -- the journal stood for a text and the history then
  pub text : (text : List ℕ) × IsTextOf members exec text
  pub least : 1 ≤ exec.opening.limit
  pub most : exec.opening.limit ≤ 100000
  -- the log is legal from the history then, and the history is that one and what was accepted since
  pub legal : IsLegal (plan_of runs exec) exec.opening.history exec.opening.limit exec.log
  pub grown : exec.history ≡ exec.opening.history ++ accepted exec.log
  pub few : length exec.log < 2 ^ 32
  -- the stepper stands for the plan, and its settled world is the run over the history
  pub settled : runs.state exec.stepper ≡ settled_state (plan_of runs exec) (world_of runs exec)
  pub runs_to : run (plan_of runs exec) (events_of exec.history) ≡ Some (world_of runs exec)
  -- the disk goes on from the opening, and has counted a fault since just where an append has failed
  pub goes : Goes members (IsSome exec.failed) exec.opening.journal.disk exec.journal.disk
  -- the journal stands for the history, or the executive is closed
  pub disk : KeepsDisk runs members exec exec.failed
  -- the names that entries have in it
  pub naming : KeepsNaming members exec

-- What an opening answers.
use Rattle.std.specs.Prelude.{◌≡◌, ℕ, ◌+◌, List, [], ◌∷◌, ◌++◌, length, None, Some, IsSome}
use Rattle.px_core.specs.Plan.{Site}
use Rattle.px_event.specs.declared.entry.Entry.{Entry}
use Rattle.px_event.specs.declared.named.NamedEntry.{NamedEntry}
use Rattle.px_event.specs.declared.names.ThreadName.{ThreadName}
use Rattle.px_journal.specs.Journal.{IsReady, IsReadyAs, name_given}
use Rattle.px_journal.specs.declared.journal.Journal.{Journal}
use Rattle.px_ports.specs.declared.disk.Disk
use Rattle.px_sem.specs.Log.{events_of}
use Rattle.px_sem.specs.Run.{run}
use Rattle.px_sem.specs.Stepper.{settled_state}
use Rattle.px_sem.specs.declared.stepper.Stepper
use Rattle.px_exec.specs.Executive.{Opening, Executive, plan_of, world_of}
use Rattle.px_exec.specs.declared.fault.OpenFault.{OpenFault}
use Rattle.px_exec.specs.declared.fault.OpenWhy.{OpenWhy}
use Rattle.px_exec.specs.declared.fault.OpenWhy.TheVariants.{Runaway, NoMemory}

-- AN OPENING: the executive has what it was handed, with an empty log, and its world is the run over the history.
pub record Opens {S D : Type 0} (runs : Stepper.Ghosts S) (handed : Opening S D) (exec : Executive S D) : Type 0 where
  pub opening : exec.opening ≡ handed
  pub journal : exec.journal ≡ handed.journal
  pub history : exec.history ≡ handed.history
  pub log : exec.log ≡ []
  pub failed : exec.failed ≡ None
  pub settled : runs.state exec.stepper ≡ settled_state (plan_of runs exec) (world_of runs exec)
  pub runs_to : run (plan_of runs exec) (events_of exec.history) ≡ Some (world_of runs exec)

-- the event at this place, from 1, is the first that doesn't settle
pub record RunsAwayAt (plan : List Site) (history : List Entry) (at : ℕ) : Type 0 where
  pub before : List Entry
  pub entry : Entry
  pub rest : List Entry
  pub parts : history ≡ before ++ entry ∷ rest
  pub place : at ≡ length before + 1
  pub settles : IsSome (run plan (events_of before))
  pub runs_away : run plan (events_of (before ++ entry ∷ [])) ≡ None

-- why an opening was refused: an event runs away, or memory ran out
abbrev pub IsWhy : List Site → List Entry → OpenWhy → Type 0
IsWhy plan history (Runaway at) = RunsAwayAt plan history at
IsWhy plan history NoMemory = Unit {0}

-- A refused opening has its reason, and hands the journal back as it was.
pub record IsNotOpened {D : Type 0} (plan : List Site) (journal : Journal D) (history : List Entry)
    (fault : OpenFault D) : Type 0 where
  pub handed_back : fault.journal ≡ journal
  pub why : IsWhy plan history fault.why

-- no post has reached the executive
pub record IsUnposted {S D : Type 0} (exec : Executive S D) : Type 0 where
  pub journal : exec.journal ≡ exec.opening.journal
  pub log : exec.log ≡ []
  pub failed : exec.failed ≡ None

-- a journal that gives each thread's entries the name from this list, in the second version
abbrev pub GivesNames : {D : Type 0} → Journal D → List ThreadName → Type 0
GivesNames journal names =
    (thread : ℕ) → name_given journal.version journal.names thread ≡ name_given journal.version names thread

-- A RENAMING before the first post: the journal, which is that of the opening, gives these names. It stands for what it
-- stood for, and all else is as before.
pub record Renames {S D : Type 0} (members : Disk.Ghosts D) (names : List ThreadName) (old new : Executive S D) : Type 0 where
  pub gives : GivesNames new.opening.journal names
  pub version : new.opening.journal.version ≡ old.opening.journal.version
  pub disk : new.opening.journal.disk ≡ old.opening.journal.disk
  pub kept : (text : List ℕ) (history : List Entry) → IsReady members old.opening.journal text history
      → IsReady members new.opening.journal text history
  pub kept_names : (text : List ℕ) (named : List NamedEntry) → IsReadyAs members old.opening.journal text named
      → IsReadyAs members new.opening.journal text named
  pub opening : new.opening ≡ record old.opening { journal = new.opening.journal }
  pub unposted : IsUnposted new
  pub stepper : new.stepper ≡ old.stepper
  pub history : new.history ≡ old.history

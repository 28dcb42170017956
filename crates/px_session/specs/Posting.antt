-- What the posts of a session have come to.
use Rattle.std.specs.Prelude.{◌≡◌, ◌<◌, ◌^◌, ℕ, List, ◌++◌, length, map, Option, None, IsTrue, IsSome}
use Rattle.std.specs.List.{list_all}
use Rattle.std.specs.Option.{ForSome, IfSome}
use Rattle.px_core.specs.Plan.{Site}
use Rattle.px_crew.specs.Crew.{Ends}
use Rattle.px_event.specs.Fit.{is_fit_entry}
use Rattle.px_event.specs.declared.entry.Entry.{Entry}
use Rattle.px_event.specs.declared.named.NamedEntry.{NamedEntry}
use Rattle.px_exec.specs.Executive.{Executive, plan_of, IsTextOf, StandsNamed, TellsBytes, WasNamed}
use Rattle.px_journal.specs.Crash.{LeavesOnly}
use Rattle.px_journal.specs.Goes.{Goes}
use Rattle.px_journal.specs.Journal.{with_name}
use Rattle.px_journal.specs.declared.journal.Journal.{Journal}
use Rattle.px_ports.specs.declared.disk.Disk
use Rattle.px_script.specs.declared.todo.Todo.{Todo}
use Rattle.px_sem.specs.Log.{IsLegal, WouldBeAccepted, HasRun, accepted}
use Rattle.px_sem.specs.declared.stepper.Stepper
use Rattle.px_session.specs.Session.{Session, HasOneHistory, IsFront, unsure}
use Rattle.px_session.specs.declared.posting.Posted.{Posted}

-- the entry whose append failed was to be accepted over this history, so the history with it is a legal one too
abbrev pub WasDue : List Site → ℕ → List Entry → Option Entry → Type 0
WasDue plan limit history failed = IfSome failed (WouldBeAccepted plan limit history)

module _ {D : Type 0} (members : Disk.Ghosts D) where
  -- what a session leaves of the disk since its opening
  pub record LeavesSession (session : Session) (opened disk : D) : Type 0 where
    pub now : HasOneHistory members session disk
    pub since : LeavesOnly members.images (IsFront session) (members.moments opened) (members.moments disk)

  -- the bytes have the journal's version, the entries found at its opening with the names that they had, and a front of
  -- these others, each with the name that the journal gives its thread
  abbrev pub HasNames : Journal D → List ℕ → List NamedEntry → List Entry → List ℕ → Type 0
  HasNames journal text found others = StandsNamed journal.version text found (map (with_name journal) others)

  -- THE NAMES THAT A SESSION LEAVES, since its opening with this journal: what a read gives and each image have them
  pub record LeavesNames (text : List ℕ) (found : List NamedEntry) (others : List Entry) (opened : Journal D) (disk : D) :
      Type 0 where
    pub read : ForSome (members.content disk) (HasNames opened text found others)
    pub since : LeavesOnly members.images (HasNames opened text found others) (members.moments opened.disk) (members.moments disk)

  -- WHAT POSTS HAVE COME TO: the work of the threads over the executive, with its legal log, the history that the accepted
  -- ones make, and the disk that stands for it.
  pub record Posts {S : Type 0} (runs : Stepper.Ghosts S) (exec : Executive S D) (threads : List Todo) (posted : Posted S D) : Type 0 where
    pub failed : Option Entry
    pub ends : Ends (plan_of runs exec) exec.opening.history posted.log.items threads failed posted.end
    pub legal : IsLegal (plan_of runs exec) exec.opening.history exec.opening.limit posted.log.items
    pub history : posted.history.items ≡ exec.opening.history ++ accepted posted.log.items
    pub due : WasDue (plan_of runs exec) exec.opening.limit posted.history.items failed
    pub has_run : HasRun (plan_of runs exec) posted.history.items (runs.state posted.stepper)
    pub fit : failed ≡ None → IsTrue (list_all is_fit_entry posted.history.items)
    pub few : failed ≡ None → length posted.history.items < 2 ^ 32
    pub disk : TellsBytes members exec.opening.journal.disk → (text : List ℕ) → IsTextOf members exec text
        → LeavesSession (record { text = text; first = exec.opening.history; log = posted.log.items; failed = failed })
        exec.opening.journal.disk posted.disk
    pub names : TellsBytes members exec.opening.journal.disk → (text : List ℕ) (found : List NamedEntry)
        → WasNamed members exec text found
        → LeavesNames text found (accepted posted.log.items ++ unsure failed) exec.opening.journal posted.disk
    -- the disk goes on from the opening, and has counted a fault since just where an append has failed
    pub goes : Goes members (IsSome failed) exec.opening.journal.disk posted.disk

-- WHAT THE COMMANDS WITH A JOURNAL CALL FOR.
use Rattle.std.specs.Prelude.{◌≡◌, ◌≢◌, ◌⊎◌, ℕ, List, [], Option, Some, None, IsSome, IfSome, IsFalse}
use Rattle.std.specs.Option.{ForSome}
use Rattle.px_compile.specs.Compiled.{IsCompiled, IsRefused}
use Rattle.px_core.specs.Plan.{Site, Tree, sites}
use Rattle.px_event.specs.declared.entry.Entry.{Entry}
use Rattle.px_exec.specs.Opening.{RunsAwayAt}
use Rattle.px_journal.specs.Damage.{Damaged}
use Rattle.px_journal.specs.Layout.{is_nothing, entries, StandsAs}
use Rattle.px_journal.specs.declared.version.Version.{Version}
use Rattle.px_ports.specs.Host.{Rose}
use Rattle.px_ports.specs.declared.disk.Disk
use Rattle.px_script.specs.Follows.{Follows, GoesThroughAll, AreStalled, IsNextPost}
use Rattle.px_script.specs.Remainder.{rest}
use Rattle.px_script.specs.declared.stall.Stall.{Stall}
use Rattle.px_script.specs.declared.script.Script.{Script}
use Rattle.px_script.specs.declared.todo.Todo.{Todo}
use Rattle.px_event.specs.declared.named.NamedEntry.{NamedEntry}
use Rattle.px_event.specs.declared.names.ThreadName.{ThreadName}
use Rattle.px_sem.specs.Log.{IsLegal, events_of}
use Rattle.px_sem.specs.Run.{run, started}
use Rattle.px_sem.specs.World.{World}
use Rattle.px_session.specs.Posting.{WasDue}
use Rattle.px_session.specs.Session.{Session, history_of, IsNothing, StandsFor}
use Rattle.px_syntax.specs.declared.fault.PlanFault.{PlanFault}
use Rattle.px_syntax.specs.declared.fault.PlanFault.TheVariants.{NoMemory as PlanOutOfMemory}
use Rattle.px_output.specs.View.{View}
use Rattle.px_run.specs.Course.{Course, Untouched, Synced, Unread, HalfMade, Made, TakenUp, GoneOn, Due, EndsIn, AfterFile}
use Rattle.px_ending.specs.Ending.{Ending, session_ending, stalled_ending, runaway_at_start, disk_fault, journal_exists, no_journal, journal_damaged, journal_plan, journal_runaway, names_ending}
use Rattle.px_run.specs.Naming.{Naming, new_naming}
use Rattle.px_run.specs.Reading.{with_text}
use Rattle.px_run.specs.Kinds.{plan_file, script_file}
use Rattle.px_run.specs.Telling.{told_ending}
use Rattle.px_run.specs.declared.finishing.Telling.{Telling}
use Rattle.px_run.specs.declared.finishing.Telling.TheVariants as tellings

-- A SESSION OF A SCRIPT over a text and the history at its opening, behind which the script has these threads left: its log
-- is legal, and follows them. An entry whose append failed was to be accepted, and is the next post of one of them.
pub record IsSession (plan : List Site) (text : List ℕ) (first : List Entry) (limit : ℕ) (left : List Todo)
    (session : Session) : Type 0 where
  pub same_text : session.text ≡ text
  pub same_first : session.first ≡ first
  pub legal : IsLegal plan first limit session.log
  pub follows : Follows plan first session.log left
  pub due : WasDue plan limit (history_of session) session.failed
  pub next : IfSome session.failed (IsNextPost plan first session.log left)

-- why the plan and the history of a journal can't be run
pub data CannotRun (text : List ℕ) (first : List Entry) : Ending → Type 0 where
  no_plan : (fault : PlanFault) → fault ≢ PlanOutOfMemory → IsRefused text fault → CannotRun text first journal_plan
  start_runs_away :
      (tree : Tree) → IsCompiled text tree → started (sites tree) ≡ None → CannotRun text first runaway_at_start
  event_runs_away :
      (tree : Tree) (at : ℕ) → IsCompiled text tree → RunsAwayAt (sites tree) first at
      → CannotRun text first (journal_runaway at)

module _ {D : Type 0} (members : Disk.Ghosts D) where
  -- WHAT IS DUE BEHIND A SESSION: what is told of it where all lines are passed; its text and the stalls where the threads
  -- stand at waits; a fault where an append failed
  pub data DueBehind (telling : Telling) (plan : List Site) (left : List Todo) (session : Session) (old new : D) : Due → Type 0 where
    whole :
        session.failed ≡ None → GoesThroughAll plan session.first session.log left
        → DueBehind telling plan left session old new (Some (told_ending telling plan session.first session.log))
    stalled :
        (stalls : List Stall) → session.failed ≡ None → AreStalled plan session.first session.log left stalls
        → DueBehind telling plan left session old new (Some (stalled_ending plan session.first session.log stalls))
    failed :
        IsSome session.failed → Rose (members.faults old) (members.faults new)
        → DueBehind telling plan left session old new (Some disk_fault)
    no_memory : session.failed ≡ None → DueBehind telling plan left session old new None

  abbrev pub SessionCalls : Telling → List Site → List ℕ → List Entry → ℕ → List Todo → D → D → Session → Due → Type 0
  SessionCalls telling plan text first limit left old new session due =
      IsSession plan text first limit left session × DueBehind telling plan left session old new due

  -- ---- `run`

  -- a new journal: one stands there, a call of the disk fails on the way, or a session runs over it
  pub data NewCalls (telling : Telling) (plan : List Site) (text : List ℕ) (limit : ℕ) (script : Script) (old new : D) : Course → Due → Type 0 where
    exists :
        ForSome (members.content old) (λ told. IsFalse (is_nothing told))
        → NewCalls telling plan text limit script old new Untouched (Some journal_exists)
    half_made :
        Rose (members.faults old) (members.faults new) → NewCalls telling plan text limit script old new (HalfMade text) (Some disk_fault)
    made :
        (session : Session) (due : Due) → IsNothing members old
        → SessionCalls telling plan text [] limit (rest script.threads []) old new session due
        → NewCalls telling plan text limit script old new (Made session (new_naming script.names)) due
    no_memory : NewCalls telling plan text limit script old new Untouched None

  -- by what the start of the plan settles into
  abbrev pub RunCallsBy : Telling → List Site → List ℕ → ℕ → Script → D → D → Course → Due → Option (World × ℕ) → Type 0
  RunCallsBy telling plan text limit script old new course due None = EndsIn Untouched runaway_at_start course due
  RunCallsBy telling plan text limit script old new course due (Some settled) =
      NewCalls telling plan text limit script old new course due

  -- the plan is read, then the script, then the plan starts, then its journal is made
  abbrev pub RunCalls : List ℕ → List ℕ → ℕ → View → View → D → D → Course → Due → Type 0
  RunCalls plan script limit before now old new course due =
      AfterFile (with_text plan_file) before now plan Untouched (λ source.
      AfterFile (script_file (sites source.1)) before now script Untouched (λ read course due.
      RunCallsBy tellings.Text (sites source.1) source.0 limit read old new course due (started (sites source.1))))
      course due

  -- ---- `resume`, `trace` and `names`

  -- why a disk has no journal
  pub data HasNoJournal (old : D) : Ending → Type 0 where
    nothing : IsNothing members old → HasNoJournal old no_journal
    damaged :
        (at : ℕ) → ForSome (members.content old) (λ told. IsFalse (is_nothing told) × Damaged told at)
        → HasNoJournal old (journal_damaged at)

  -- in one version or the other, it stands for the text and for entries with these names
  abbrev pub IsNamed : D → List ℕ → List NamedEntry → Type 0
  IsNamed old text found = ForSome (members.content old) (λ told. (version : Version) × StandsAs version told text found)

  -- why the journal of a disk is refused
  abbrev pub JournalRefuses : D → Ending → Type 0
  JournalRefuses old ending =
      HasNoJournal old ending ⊎ ((text : List ℕ) × (first : List Entry) × StandsFor members old text first × CannotRun text first ending)

  -- what is due where a journal is read first: it is refused, or its plan and its history go on; or the disk fails, or
  -- memory runs out, which it may do before the disk is called, and then that is as it was
  pub data AfterJournal (old new : D) (Next : List ℕ → List Entry → Tree → Course → Due → Type 0) : Course → Due → Type 0 where
    not_read : new ≡ old → AfterJournal old new Next Untouched None
    no_memory : AfterJournal old new Next Synced None
    disk_fails : Rose (members.faults old) (members.faults new) → AfterJournal old new Next Unread (Some disk_fault)
    no_journal_there : (ending : Ending) → HasNoJournal old ending → AfterJournal old new Next Synced (Some ending)
    not_run :
        (text : List ℕ) (first : List Entry) (ending : Ending) → StandsFor members old text first → CannotRun text first ending
        → AfterJournal old new Next (TakenUp text first) (Some ending)
    opened :
        (text : List ℕ) (first : List Entry) (tree : Tree) (course : Course) (due : Due) → StandsFor members old text first
        → IsCompiled text tree → IsSome (run (sites tree) (events_of first)) → Next text first tree course due
        → AfterJournal old new Next course due

  -- the disk stands in its version for the text, and for this history with the names; new entries get these ones
  pub record WasFound (old : D) (text : List ℕ) (first : List Entry) (names : List ThreadName) (naming : Naming) : Type 0 where
    pub stands : ForSome (members.content old) (λ told. StandsAs naming.version told text naming.found)
    pub entries_are : entries naming.found ≡ first
    pub names_are : naming.names ≡ names

  -- the journal is read, then the script, and a session goes on with what is left of it
  abbrev pub ResumeCalls : List ℕ → ℕ → View → View → D → D → Course → Due → Type 0
  ResumeCalls script limit before now old new course due =
      AfterJournal old new (λ text first tree.
      AfterFile (script_file (sites tree)) before now script (TakenUp text first) (λ read course due.
      (session : Session) × (naming : Naming) × (course ≡ GoneOn session naming) × WasFound old text first read.names naming
      × SessionCalls tellings.Text (sites tree) text first limit (rest read.threads first) old new session due))
      course due

  -- the journal is read, and its history is printed
  abbrev pub TraceCalls : D → D → Course → Due → Type 0
  TraceCalls old new course due =
      AfterJournal old new (λ text first tree. EndsIn (TakenUp text first) (session_ending (sites tree) first [])) course due

  -- the journal is read, and the names of its entries are printed; its plan isn't compiled
  pub data NamesCalls (old new : D) : Course → Due → Type 0 where
    not_read : new ≡ old → NamesCalls old new Untouched None
    no_memory : NamesCalls old new Synced None
    disk_fails : Rose (members.faults old) (members.faults new) → NamesCalls old new Unread (Some disk_fault)
    no_journal_there : (ending : Ending) → HasNoJournal old ending → NamesCalls old new Synced (Some ending)
    named :
        (text : List ℕ) (found : List NamedEntry) → IsNamed old text found
        → NamesCalls old new (TakenUp text (entries found)) (Some (names_ending found))

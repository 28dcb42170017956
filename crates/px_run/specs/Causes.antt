-- The causes of answers: what each status tells, when the program carries its command out, and when it refuses its files.
use Rattle.std.specs.Prelude.{◌≡◌, ◌≢◌, ◌⊎◌, ◌<◌, ℕ, true, false, List, [], Option, Some, None, IsSome, IsTrue, IsFalse, is_some, if◌then◌else◌}
use Rattle.std.specs.Option.{option_map, option_and_then, ForSome}
use Rattle.px_compile.specs.Compiled.{IsCompiled}
use Rattle.px_event.specs.declared.entry.Entry.{Entry}
use Rattle.px_event.specs.declared.named.NamedEntry.{NamedEntry}
use Rattle.px_journal.specs.Layout.{is_nothing, Stands}
use Rattle.px_output.specs.View.{View, Faulted}
use Rattle.px_ports.specs.Host.{Files, Emits, Rose}
use Rattle.px_ports.specs.declared.disk.Disk
use Rattle.px_core.specs.Plan.{Site, Tree, sites}
use Rattle.px_sem.specs.Log.{Log, IsLegal, events_of}
use Rattle.px_sem.specs.World.{World}
use Rattle.px_sem.specs.Run.{run, started}
use Rattle.px_script.specs.Follows.{AreStalled}
use Rattle.px_script.specs.Remainder.{rest}
use Rattle.px_script.specs.declared.stall.Stall.{Stall}
use Rattle.px_script.specs.declared.script.Script.{Script}
use Rattle.px_session.specs.Session.{IsNothing, StandsFor}
use Rattle.px_words.specs.Words.{Command, Run, Resume, Names, Soak, plan_operand, script_operand, journal_operand, takes_up, runs_plan, command}
use Rattle.px_ending.specs.Ending.{Ending, nodes_ending, start_ending, stalled_ending}
use Rattle.px_run.specs.Reading.{FileKind, Reads, IsRefusedAs, Holds, HoldsNone}
use Rattle.px_run.specs.Journaled.{HasNoJournal, IsNamed, JournalRefuses}
use Rattle.px_run.specs.Kinds.{plan_file, script_file}
use Rattle.px_run.specs.Soak.{soak_plan}

-- the words ask for a command with this plan; with this script; with this journal
abbrev pub HasPlan : List (List ℕ) → List ℕ → Type 0
HasPlan words plan = option_and_then plan_operand (command words) ≡ Some plan

abbrev pub HasScript : List (List ℕ) → List ℕ → Type 0
HasScript words name = option_and_then script_operand (command words) ≡ Some name

abbrev pub HasJournal : List (List ℕ) → Type 0
HasJournal words = (name : List ℕ) × (option_and_then journal_operand (command words) ≡ Some name)

-- they ask that a journal that stands is taken up, to go on with it, to print it, or to print its names
abbrev pub TakesUpJournal : List (List ℕ) → Type 0
TakesUpJournal words = option_map takes_up (command words) ≡ Some true

-- they ask for a soak
abbrev pub IsSoak : List (List ℕ) → Type 0
IsSoak words = (count seed : ℕ) × (journal : List ℕ) × (command words ≡ Some (Soak count seed journal))

-- they ask for a run of a plan; for its check or its layout alone
abbrev pub AsksForRun : List (List ℕ) → Type 0
AsksForRun words = option_map runs_plan (command words) ≡ Some true

abbrev pub OnlyChecks : List (List ℕ) → Type 0
OnlyChecks words = option_map runs_plan (command words) ≡ Some false

-- the plan's file spells a plan, which is such
abbrev pub ReadsPlan : List (List ℕ) → View → View → (Tree → Type 0) → Type 0
ReadsPlan words old new IsSuch = (plan : List ℕ) × (tree : Tree) × HasPlan words plan × Reads plan_file old new plan tree × IsSuch tree

-- the script's file, where the command has one, spells a script over the plan
abbrev pub ReadsScript : List (List ℕ) → View → View → Tree → Type 0
ReadsScript words old new tree =
    (name : List ℕ) → HasScript words name → (read : Script) × Reads (script_file (sites tree)) old new name read

-- the words ask for a soak, and the start of its plan is such
abbrev pub SoakStarts : List (List ℕ) → (Option (World × ℕ) → Type 0) → Type 0
SoakStarts words IsSuch = IsSoak words × (tree : Tree) × IsCompiled soak_plan tree × IsSuch (started (sites tree))

-- the plan is to be run and its file spells one, the script is read, and the start of the plan is such; or so is that of a soak
abbrev pub Starts : List (List ℕ) → View → View → (Option (World × ℕ) → Type 0) → Type 0
Starts words old new IsSuch =
    (AsksForRun words × ReadsPlan words old new (λ tree. ReadsScript words old new tree × IsSuch (started (sites tree))))
    ⊎ SoakStarts words IsSuch

-- the file that the command has as this operand is refused
abbrev pub OperandIsRefused : {A : Type 0} → FileKind A → (List (List ℕ) → List ℕ → Type 0) → List (List ℕ) → View → View → Type 0
OperandIsRefused kind Has words old new = (name : List ℕ) × Has words name × IsRefusedAs kind old new name

-- a fetch of the file that the command has as this operand failed
abbrev pub FailsToRead : (List (List ℕ) → List ℕ → Type 0) → List (List ℕ) → View → View → Type 0
FailsToRead Has words old new =
    (name : List ℕ) × Has words name × (old.read_faults name < new.read_faults name)

-- the script in a file is read, and a legal log of what it has left behind a history stalls
pub record StallsBehind (before now : View) (script : List ℕ) (plan : List Site) (limit : ℕ) (first : List Entry) : Type 0 where
  pub spelled : Script
  pub read : Reads (script_file plan) before now script spelled
  pub log : Log
  pub legal : IsLegal plan first limit log
  pub stalls : List Stall
  pub stalled : AreStalled plan first log (rest spelled.threads first) stalls
  pub text : Emits before.emitted now.emitted (stalled_ending plan first log stalls).text

module _ {D : Type 0} (members : Disk.Ghosts D) where
  -- the command takes up its journal, and the disk stands for the text of a plan and for a history, which are such
  abbrev pub TakesUp : List (List ℕ) → D → (Tree → List Entry → Type 0) → Type 0
  TakesUp words disk IsSuch = TakesUpJournal words × HasJournal words × (text : List ℕ) × (first : List Entry) × (tree : Tree)
      × StandsFor members disk text first × IsCompiled text tree × IsSuch tree first

  -- the disk is refused: a journal stands where one was to be made, or none that can be taken up where one was to be read
  abbrev pub JournalIsRefused : List (List ℕ) → View → View → D → Type 0
  JournalIsRefused words before now disk =
      (Starts words before now (λ start. IsSome start) × HasJournal words × ForSome (members.content disk) (λ told. IsFalse (is_nothing told)))
      ⊎ (TakesUpJournal words × HasJournal words
      × (ending : Ending) × JournalRefuses members disk ending × (ending.status ≡ 5))

  -- a legal log of what the command's script has left, behind the history that it begins with, stalls at some waits
  pub data StallsOver (words : List (List ℕ)) (before now : View) (old : D) : Type 0 where
    of_new :
        (plan script journal : List ℕ) (limit : ℕ) (tree : Tree) → command words ≡ Some (Run plan script journal limit)
        → Reads plan_file before now plan tree → IsNothing members old → StallsBehind before now script (sites tree) limit []
        → StallsOver words before now old
    of_taken_up :
        (script journal : List ℕ) (limit : ℕ) (text : List ℕ) (first : List Entry) (tree : Tree)
        → command words ≡ Some (Resume script journal limit) → StandsFor members old text first
        → IsCompiled text tree → StallsBehind before now script (sites tree) limit first
        → StallsOver words before now old

  -- THE TABLE OF STATUSES: each with its cause. What comes behind a plan, a script or a journal comes only where that was
  -- read.
  pub data Cause (words : List (List ℕ)) (before now : View) (old new : D) : ℕ → Type 0 where
    done : Starts words before now (λ start. IsSome start) → (HasJournal words → IsNothing members old) → Cause words before now old new 0
    taken_up :
        TakesUp words old (λ tree first. ReadsScript words before now tree × IsSome (run (sites tree) (events_of first)))
        → Cause words before now old new 0
    named :
        (journal : List ℕ) (text : List ℕ) (found : List NamedEntry) → command words ≡ Some (Names journal)
        → IsNamed members old text found → Cause words before now old new 0
    checked : OnlyChecks words → ReadsPlan words before now (λ tree. Unit {0}) → Cause words before now old new 0
    no_command : command words ≡ None → Cause words before now old new 2
    plan_refused : OperandIsRefused plan_file HasPlan words before now → Cause words before now old new 3
    script_refused :
        ReadsPlan words before now (λ tree. OperandIsRefused (script_file (sites tree)) HasScript words before now)
        ⊎ TakesUp words old (λ tree first. OperandIsRefused (script_file (sites tree)) HasScript words before now)
        → Cause words before now old new 4
    journal_refused : JournalIsRefused words before now old → Cause words before now old new 5
    runaway : Starts words before now (λ start. start ≡ None) → Cause words before now old new 6
    taken_up_runaway : TakesUp words old (λ tree first. started (sites tree) ≡ None) → Cause words before now old new 6
    read_fault :
        FailsToRead HasPlan words before now
        ⊎ (ReadsPlan words before now (λ tree. FailsToRead HasScript words before now)
        ⊎ TakesUp words old (λ tree first. FailsToRead HasScript words before now))
        → Cause words before now old new 7
    sink_fault : Faulted before now → Cause words before now old new 8
    disk_fault :
        HasJournal words → TakesUpJournal words ⊎ Starts words before now (λ start. IsSome start)
        → Rose (members.faults old) (members.faults new) → Cause words before now old new 9
    no_memory : Cause words before now old new 10
    -- lines of a script are left, and each thread that has some stands at a wait that isn't met
    stalled : StallsOver words before now old → Cause words before now old new 11

module _ {D : Type 0} (members : Disk.Ghosts D) where
  -- THE DISK AS IT IS HANDED BACK: it tells its bytes as before, and with every status but these three its count of faults is
  -- as it was. So 9 comes just where the count rose, but that 8 and 10 may stand in its place.
  pub record IsHandedBack (old new : D) (status : ℕ) : Type 0 where
    pub tells : is_some (members.content new) ≡ is_some (members.content old)
    pub faults : status ≢ 8 → status ≢ 9 → status ≢ 10 → members.faults new ≡ members.faults old

-- the status of a command whose plan and script are read: that of the plan's start, where the plan is run
abbrev pub status_behind : Option Command → Tree → ℕ
status_behind None tree = 0
status_behind (Some asked) tree = if runs_plan asked then (start_ending tree).status else (nodes_ending tree).status

module _ {D : Type 0} (members : Disk.Ghosts D) where
  -- where the command has a journal, no call of the disk failed, and the disk was such
  abbrev pub IsSound : List (List ℕ) → D → D → (List ℕ → Type 0) → Type 0
  IsSound words old new IsSuch = HasJournal words
      → ((bytes : List ℕ) × (members.content old ≡ Some bytes) × IsSuch bytes) × ¬ Rose (members.faults old) (members.faults new)

  -- Files that can be read, a disk that fits, and no fault: the command is carried out, or its start is a runaway, or its script
  -- stalls, which has its cause above, or memory is wanting.
  pub record IsComplete (words : List (List ℕ)) (before now : View) (old new : D) (status : ℕ) : Type 0 where
    -- a plan of a file
    pub plan :
        (plan : List ℕ) (files : Files) (tree : Tree) → HasPlan words plan
        → before.files ≡ Some files → Holds plan_file files plan tree
        → ((name : List ℕ) → HasScript words name → (held : Script) × Holds (script_file (sites tree)) files name held)
        → IsSound words old new (λ bytes. IsTrue (is_nothing bytes))
        → ¬ FailsToRead HasPlan words before now → ¬ FailsToRead HasScript words before now → ¬ Faulted before now
        → (status ≡ 10) ⊎ ((status ≡ status_behind (command words) tree) ⊎ (status ≡ 11))
    -- a soak, over a disk that is nothing
    pub soak :
        (tree : Tree) → IsSoak words → IsCompiled soak_plan tree → IsSound words old new (λ bytes. IsTrue (is_nothing bytes))
        → ¬ Faulted before now → (status ≡ 10) ⊎ (status ≡ (start_ending tree).status)
    -- the names of a journal
    pub names :
        (journal : List ℕ) → command words ≡ Some (Names journal)
        → IsSound words old new (λ bytes. (text : List ℕ) × (first : List Entry) × Stands bytes text first)
        → ¬ Faulted before now → (status ≡ 10) ⊎ (status ≡ 0)
    -- a journal that is taken up
    pub journal :
        (text : List ℕ) (first : List Entry) (tree : Tree) → TakesUpJournal words → HasJournal words
        → IsCompiled text tree → IsSome (run (sites tree) (events_of first))
        → ((name : List ℕ) → HasScript words name
        → (files : Files) × (before.files ≡ Some files) × ((held : Script) × Holds (script_file (sites tree)) files name held))
        → IsSound words old new (λ bytes. Stands bytes text first)
        → ¬ FailsToRead HasScript words before now → ¬ Faulted before now
        → (status ≡ 10) ⊎ ((status ≡ 0) ⊎ (status ≡ 11))

  -- A plan or a journal that is refused, or a script behind one that is not, and no fault: the command is refused so, or
  -- memory is wanting.
  pub record RefusesFiles (words : List (List ℕ)) (before now : View) (old new : D) (status : ℕ) : Type 0 where
    pub plan :
        (plan : List ℕ) (files : Files) → HasPlan words plan → before.files ≡ Some files → HoldsNone plan_file files plan
        → ¬ FailsToRead HasPlan words before now → ¬ Faulted before now → (status ≡ 10) ⊎ (status ≡ 3)
    pub script :
        (plan name : List ℕ) (files : Files) (tree : Tree) → HasPlan words plan → HasScript words name
        → before.files ≡ Some files → Holds plan_file files plan tree → HoldsNone (script_file (sites tree)) files name
        → ¬ FailsToRead HasPlan words before now → ¬ FailsToRead HasScript words before now → ¬ Faulted before now
        → (status ≡ 10) ⊎ (status ≡ 4)
    -- a plan that is to be run, whose start doesn't settle
    pub runaway :
        (plan : List ℕ) (files : Files) (tree : Tree) → HasPlan words plan → AsksForRun words → before.files ≡ Some files
        → Holds plan_file files plan tree
        → ((name : List ℕ) → HasScript words name → (held : Script) × Holds (script_file (sites tree)) files name held)
        → started (sites tree) ≡ None
        → ¬ FailsToRead HasPlan words before now → ¬ FailsToRead HasScript words before now → ¬ Faulted before now
        → (status ≡ 10) ⊎ (status ≡ 6)
    -- the same of a soak
    pub soak_runaway :
        (tree : Tree) → IsSoak words → IsCompiled soak_plan tree → started (sites tree) ≡ None → ¬ Faulted before now
        → (status ≡ 10) ⊎ (status ≡ 6)
    -- a journal that stands where one was to be made
    pub exists :
        (plan : List ℕ) (files : Files) (tree : Tree) → HasPlan words plan → HasJournal words → before.files ≡ Some files
        → Holds plan_file files plan tree
        → ((name : List ℕ) → HasScript words name → (held : Script) × Holds (script_file (sites tree)) files name held)
        → IsSome (started (sites tree)) → IsSound words old new (λ bytes. IsFalse (is_nothing bytes))
        → ¬ FailsToRead HasPlan words before now → ¬ FailsToRead HasScript words before now → ¬ Faulted before now
        → (status ≡ 10) ⊎ (status ≡ 5)
    -- the same of a soak
    pub soak_exists :
        (tree : Tree) → IsSoak words → IsCompiled soak_plan tree → IsSome (started (sites tree))
        → IsSound words old new (λ bytes. IsFalse (is_nothing bytes)) → ¬ Faulted before now → (status ≡ 10) ⊎ (status ≡ 5)
    -- a journal that is none that can be taken up: 5, or 6 where the start of its plan runs away
    pub journal :
        (why : Ending) → TakesUpJournal words → AsksForRun words → HasJournal words → JournalRefuses members old why
        → ((bytes : List ℕ) × (members.content old ≡ Some bytes)) → ¬ Rose (members.faults old) (members.faults new)
        → ¬ Faulted before now → (status ≡ 10) ⊎ (status ≡ why.status)
    -- none whose names could be told
    pub names :
        (journal : List ℕ) (why : Ending) → command words ≡ Some (Names journal) → HasNoJournal members old why
        → ((bytes : List ℕ) × (members.content old ≡ Some bytes)) → ¬ Rose (members.faults old) (members.faults new)
        → ¬ Faulted before now → (status ≡ 10) ⊎ (status ≡ why.status)
    -- a script behind a journal that is taken up
    pub script_behind_journal :
        (name : List ℕ) (files : Files) (text : List ℕ) (first : List Entry) (tree : Tree) → TakesUpJournal words
        → HasJournal words → HasScript words name → before.files ≡ Some files → IsCompiled text tree
        → IsSome (run (sites tree) (events_of first)) → HoldsNone (script_file (sites tree)) files name
        → IsSound words old new (λ bytes. Stands bytes text first)
        → ¬ FailsToRead HasScript words before now → ¬ Faulted before now
        → (status ≡ 10) ⊎ (status ≡ 4)

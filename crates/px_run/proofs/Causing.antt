-- From the headline to its cause.
use Rattle.std.proofs.Common.{◌≡◌, ℕ, inl, inr, List, [], Option, Some, None, IsSome, refl, ap, subst, sym, ◌∙◌}
use Rattle.std.specs.Option.{option_map, option_and_then}
use Rattle.px_compile.specs.Compiled.{IsCompiled}
use Rattle.px_core.specs.Plan.{Site, Tree, sites}
use Rattle.px_event.specs.declared.entry.Entry.{Entry}
use Rattle.px_output.specs.View.{View, Faulted}
use Rattle.px_ports.specs.Host.{Emits, Rose}
use Rattle.px_ports.specs.declared.disk.Disk
use Rattle.px_script.specs.Follows.{AreStalled}
use Rattle.px_script.specs.Soak.{soak_threads}
use Rattle.px_script.proofs.Soaks.{soak_never_stalls}
use Rattle.px_script.specs.Remainder.{rest}
use Rattle.px_script.specs.declared.script.Script.{Script}
use Rattle.px_script.specs.declared.todo.Todo.{Todo}
use Rattle.px_syntax.specs.Plan.{PlanTree}
use Rattle.px_sem.specs.Log.{events_of}
use Rattle.px_sem.specs.Run.{run, started}
use Rattle.px_sem.specs.World.{World}
use Rattle.px_session.specs.Session.{Session, IsNothing, StandsFor}
use Rattle.px_words.specs.Words.{Command, TraceStart, DryRun, Check, Format, Run, Resume, Trace, Names, Soak, plan_operand, script_operand, journal_operand, takes_up, runs_plan, command}
use Rattle.px_run.specs.Causes.{HasPlan, HasScript, HasJournal, TakesUpJournal, IsSoak, AsksForRun, ReadsScript, Starts, OperandIsRefused, FailsToRead, StallsBehind, StallsOver, TakesUp, Cause}
use Rattle.px_run.specs.Course.{Course, Untouched, TakenUp, GoneOn, Due, EndsIn, AfterFile}
use Rattle.px_ending.specs.Ending.{Ending, of_start, start_ending, nodes_ending, session_ending, stalled_ending, runaway_at_start}
use Rattle.px_run.specs.Reading.{FileKind, Seen, Content, Longer, Unreadable, Shows, Refuses, with_text, Reads}
use Rattle.px_run.specs.Format.{LaysOut, layout_ending}
use Rattle.px_run.specs.Headline.{DryRunOf, TraceStartCalls, DryRunCalls, CommandCallsFor, Delivers, Headline}
use Rattle.px_run.specs.Journaled.{IsSession, DueBehind, SessionCalls, NewCalls, RunCallsBy, RunCalls, HasNoJournal, CannotRun, WasFound, AfterJournal, ResumeCalls, TraceCalls, NamesCalls}
use Rattle.px_run.specs.Kinds.{plan_file, script_file}
use Rattle.px_run.specs.Naming.{Naming}
use Rattle.px_run.specs.Soak.{soak_plan, soak_lines, SoakCalls}
use Rattle.px_run.specs.declared.finishing.Telling.{Telling}
use Rattle.px_run.specs.declared.finishing.Telling.TheVariants as tellings
use Rattle.px_run.proofs.FileKinds.{IsKind, plan_kind, script_kind, text_kind}
use Rattle.px_run.proofs.Finished.{where_behind}
use Rattle.px_run.proofs.SeenFiles.{WhereDue, without_text}
use Rattle.px_run.proofs.Starting.{some_start}

-- a dry run has the status of its start
pub dry_run_status : (tree : Tree) (threads : List Todo) (course : Course) (due : Due) → DryRunOf (sites tree) threads course due
    → WhereDue (λ ending. ending.status ≡ (start_ending tree).status) due
dry_run_status tree threads _ _ (DryRunOf.runaway none) = sym (ap (λ found. (of_start (sites tree) found).status) none)
dry_run_status tree threads _ _ (DryRunOf.whole log dry) =
    let found = some_start (sites tree) dry.legal.runs in sym (ap (λ start. (of_start (sites tree) start).status) found.1)
dry_run_status tree threads _ _ DryRunOf.no_memory = tt

-- a soak names its journal
pub soak_journal : (words : List (List ℕ)) → IsSoak words → HasJournal words
soak_journal words asked = (asked.2, ap (option_and_then journal_operand) asked.3)

module _ {D : Type 0} (members : Disk.Ghosts D) (words : List (List ℕ)) (before now : View) (old new : D) where
  -- an ending that was emitted whole has its cause
  abbrev IsCaused : Ending → Type 0
  IsCaused ending = Emits before.emitted now.emitted ending.text → Cause members words before now old new ending.status

  -- the same of whatever is due
  abbrev AreCaused : Due → Type 0
  AreCaused due = WhereDue IsCaused due

  caused_as : (ending : Ending) (status : ℕ) → ending.status ≡ status → Cause members words before now old new status → IsCaused ending
  caused_as ending status is cause = λ emits. subst (Cause members words before now old new) (sym is) cause

  -- ---- files

  refused_file : (A : Type 0) (kind : FileKind A) (status : ℕ) (Has : List (List ℕ) → List ℕ → Type 0) (name : List ℕ) (seen : Seen) (ending : Ending)
      → IsKind A kind status → Has words name → (OperandIsRefused kind Has words before now → Cause members words before now old new status)
      → (FailsToRead Has words before now → Cause members words before now old new 7) → Shows kind.limit before now name seen
      → Refuses kind seen ending → IsCaused ending
  refused_file A kind status Has name Unreadable ending k has cause fails shows is =
      caused_as ending 7 (ap (λ e. e.status) is) (fails (name, has, shows))
  refused_file A kind status Has name Longer ending k has cause fails shows is =
      caused_as ending status (ap (λ e. e.status) is ∙ k.too_long) (cause (name, has, inl shows))
  refused_file A kind status Has name (Content bytes) ending k has cause fails shows refuses =
      caused_as ending status (k.refused bytes ending refuses) (cause (name, has, inr (bytes, ending, shows, refuses)))

  -- what comes behind a file that is an operand
  after_operand : (A : Type 0) (kind : FileKind A) (status : ℕ) (Has : List (List ℕ) → List ℕ → Type 0) (name : List ℕ) (so_far : Course)
      (Next : A → Course → Due → Type 0) (course : Course) (due : Due) → IsKind A kind status → Has words name
      → (OperandIsRefused kind Has words before now → Cause members words before now old new status)
      → (FailsToRead Has words before now → Cause members words before now old new 7)
      → ((part : A) → Reads kind before now name part → Next part course due → AreCaused due)
      → AfterFile kind before now name so_far Next course due → AreCaused due
  after_operand A kind status Has name so_far Next _ _ k has cause fails behind AfterFile.no_memory = tt
  after_operand A kind status Has name so_far Next _ _ k has cause fails behind (AfterFile.refused seen ending shows refuses) =
      refused_file A kind status Has name seen ending k has cause fails shows refuses
  after_operand A kind status Has name so_far Next _ _ k has cause fails behind (AfterFile.read seen part course due shows spells next) =
      behind part (seen, shows, spells) next

  after_plan : (plan : List ℕ) (Next : Tree → Course → Due → Type 0) (course : Course) (due : Due) → HasPlan words plan
      → ((tree : Tree) → Reads plan_file before now plan tree → Next tree course due → AreCaused due)
      → AfterFile plan_file before now plan Untouched Next course due → AreCaused due
  after_plan plan Next course due has behind after =
      after_operand Tree plan_file 3 HasPlan plan Untouched Next course due plan_kind has (λ r. Cause.plan_refused r) (λ fails. Cause.read_fault (inl fails)) behind after

  -- the script that was read is the one that the words ask for
  reads_script : (tree : Tree) (name : List ℕ) (read : Script) → HasScript words name → Reads (script_file (sites tree)) before now name read
      → ReadsScript words before now tree
  reads_script tree name read has reads other asks =
      let same : name ≡ other = cc in (read, subst (λ n. Reads (script_file (sites tree)) before now n read) same reads)

  -- without a script there is none to be read
  no_script : (tree : Tree) → option_and_then script_operand (command words) ≡ None → ReadsScript words before now tree
  no_script tree none name has = absurd (let both = sym none ∙ has in cc)

  -- ---- sessions

  -- behind a session: its script is carried out or stalls, or the disk fails
  session_caused : (telling : Telling) (plan : List Site) (text : List ℕ) (first : List Entry) (limit : ℕ) (script : List ℕ) (spelled : Script) (session : Session) (due : Due)
      → (Rose (members.faults old) (members.faults new) → Cause members words before now old new 9) → Cause members words before now old new 0
      → (StallsBehind before now script plan limit first → StallsOver members words before now old)
      → Reads (script_file plan) before now script spelled → IsSession plan text first limit (rest spelled.threads first) session
      → DueBehind members telling plan (rest spelled.threads first) session old new due → AreCaused due
  session_caused telling plan text first limit script spelled session due fails carried_out stalls reads so =
      where_behind members telling plan (rest spelled.threads first) session old new IsCaused due (λ emits. carried_out)
      (λ waits stalled emits. Cause.stalled (stalls (record {
        spelled = spelled;
        read = reads;
        log = session.log;
        legal = so.legal;
        stalls = waits;
        stalled = subst (λ (h : List Entry). AreStalled plan h session.log (rest spelled.threads first) waits) so.same_first stalled;
        text = subst (λ (h : List Entry). Emits before.emitted now.emitted (stalled_ending plan h session.log waits).text) so.same_first emits;
      })))
      (λ rose emits. fails rose)

  -- ---- a plan that is to be run

  module _ (plan : List ℕ) (runs : AsksForRun words) (has : HasPlan words plan) where
    started_so : (tree : Tree) (IsSuch : Option (World × ℕ) → Type 0) → Reads plan_file before now plan tree → ReadsScript words before now tree
        → IsSuch (started (sites tree)) → Starts words before now IsSuch
    started_so tree IsSuch reads scripts such = inl (runs, (plan, tree, has, reads, (scripts, such)))

    -- the start, without a journal
    start_caused : (tree : Tree) (found : Option (World × ℕ)) → option_and_then journal_operand (command words) ≡ None → Reads plan_file before now plan tree → ReadsScript words before now tree
        → started (sites tree) ≡ found → Cause members words before now old new (of_start (sites tree) found).status
    start_caused tree None no_journal reads scripts is = Cause.runaway (started_so tree (λ found. found ≡ None) reads scripts is)
    start_caused tree (Some settled) no_journal reads scripts is =
        Cause.done (started_so tree (λ found. IsSome found) reads scripts (rw is refl)) (λ (name, has). absurd (let both = sym no_journal ∙ has in cc))

    trace_start_caused : (course : Course) (due : Due) → option_and_then script_operand (command words) ≡ None
        → option_and_then journal_operand (command words) ≡ None → TraceStartCalls plan before now course due
        → AreCaused due
    trace_start_caused course due none no_journal after =
        after_plan plan (λ tree. EndsIn Untouched (start_ending tree)) course due has
        (λ tree reads ends. ended tree due reads ends.1) after
      where
        ended : (tree : Tree) (d : Due) → Reads plan_file before now plan tree → d ≡ Some (start_ending tree) → AreCaused d
        ended tree d reads is =
            rw is (caused_as (start_ending tree) (start_ending tree).status refl (start_caused tree (started (sites tree)) no_journal reads (no_script tree none) refl))

    -- a script behind the plan
    behind_plan : (tree : Tree) (script : List ℕ) (Next : Script → Course → Due → Type 0) (course : Course) (due : Due) → HasScript words script
        → Reads plan_file before now plan tree
        → ((read : Script) → Reads (script_file (sites tree)) before now script read → Next read course due → AreCaused due)
        → AfterFile (script_file (sites tree)) before now script Untouched Next course due → AreCaused due
    behind_plan tree script Next course due asks reads behind after =
        after_operand Script (script_file (sites tree)) 4 HasScript script Untouched Next course due (script_kind (sites tree)) asks
        (λ r. Cause.script_refused (inl (plan, tree, has, reads, r))) (λ fails. Cause.read_fault (inr (inl (plan, tree, has, reads, fails)))) behind after

    dry_run_caused : (script : List ℕ) (course : Course) (due : Due) → HasScript words script → option_and_then journal_operand (command words) ≡ None
        → DryRunCalls plan script before now course due → AreCaused due
    dry_run_caused script course due asks no_journal after =
        after_plan plan (λ tree. AfterFile (script_file (sites tree)) before now script Untouched (λ read. DryRunOf (sites tree) read.threads)) course due has
        (λ tree reads next. behind_plan tree script (λ read. DryRunOf (sites tree) read.threads) course due asks reads
        (λ spelled read dry. ended tree due (start_caused tree (started (sites tree)) no_journal reads (reads_script tree script spelled asks read) refl)
        (dry_run_status tree spelled.threads course due dry)) next) after
      where
        ended : (tree : Tree) (d : Due) → Cause members words before now old new (start_ending tree).status
            → WhereDue (λ ending. ending.status ≡ (start_ending tree).status) d → AreCaused d
        ended tree None cause none = tt
        ended tree (Some ending) cause is = caused_as ending (start_ending tree).status is cause

    -- a journal behind them
    new_caused : (tree : Tree) (text : List ℕ) (limit : ℕ) (script journal : List ℕ) (spelled : Script) (course : Course) (due : Due)
        → command words ≡ Some (Run plan script journal limit) → Reads plan_file before now plan tree
        → Reads (script_file (sites tree)) before now script spelled → Starts words before now (λ found. IsSome found) → HasJournal words
        → NewCalls members tellings.Text (sites tree) text limit spelled old new course due → AreCaused due
    new_caused tree text limit script journal spelled _ _ asked reads read starts has_journal (NewCalls.exists told) =
        λ emits. Cause.journal_refused (inl (starts, has_journal, told))
    new_caused tree text limit script journal spelled _ _ asked reads read starts has_journal (NewCalls.half_made rose) =
        λ emits. Cause.disk_fault has_journal (inr starts) rose
    new_caused tree text limit script journal spelled _ _ asked reads read starts has_journal (NewCalls.made session due nothing (so, behind)) =
        session_caused _ (sites tree) text [] limit script spelled session due (Cause.disk_fault has_journal (inr starts)) (Cause.done starts (λ has. nothing))
        (λ stalls. StallsOver.of_new plan script journal limit tree asked reads nothing stalls) read so behind
    new_caused tree text limit script journal spelled _ _ asked reads read starts has_journal NewCalls.no_memory = tt

    run_caused : (tree : Tree) (text : List ℕ) (limit : ℕ) (script journal : List ℕ) (spelled : Script) (course : Course) (due : Due)
        (found : Option (World × ℕ)) → command words ≡ Some (Run plan script journal limit) → HasScript words script → HasJournal words
        → Reads plan_file before now plan tree → Reads (script_file (sites tree)) before now script spelled → started (sites tree) ≡ found
        → RunCallsBy members tellings.Text (sites tree) text limit spelled old new course due found → AreCaused due
    run_caused tree text limit script journal spelled course due None asked asks has_journal reads read is (untouched, ends) =
        rw ends (caused_as runaway_at_start 6 refl (Cause.runaway (started_so tree (λ found. found ≡ None) reads (reads_script tree script spelled asks read) is)))
    run_caused tree text limit script journal spelled course due (Some settled) asked asks has_journal reads read is calls =
        new_caused tree text limit script journal spelled course due asked reads read
        (started_so tree (λ found. IsSome found) reads (reads_script tree script spelled asks read) (rw is refl)) has_journal calls

    run_is_caused : (script journal : List ℕ) (limit : ℕ) (course : Course) (due : Due) → command words ≡ Some (Run plan script journal limit)
        → HasScript words script → HasJournal words → RunCalls members plan script limit before now old new course due → AreCaused due
    run_is_caused script journal limit course due asked asks has_journal after =
        after_operand (List ℕ × Tree) (with_text plan_file) 3 HasPlan plan Untouched _ course due (text_kind Tree plan_file 3 plan_kind) has
        (λ r. Cause.plan_refused r) (λ fails. Cause.read_fault (inl fails))
        (λ source reads next. behind_plan source.1 script _ course due asks (without_text before now plan source reads)
        (λ spelled read calls. run_caused source.1 source.0 limit script journal spelled course due (started (sites source.1)) asked asks has_journal
        (without_text before now plan source reads) read refl calls) next) after

  -- ---- a journal that is to be taken up

  module _ (reopens : TakesUpJournal words) (journal : HasJournal words) where
    no_journal_caused : (ending : Ending) → HasNoJournal members old ending → IsCaused ending
    no_journal_caused _ (HasNoJournal.nothing told) =
        λ emits. Cause.journal_refused (inr (reopens, journal, _, inl (HasNoJournal.nothing told), refl))
    no_journal_caused _ (HasNoJournal.damaged at told) =
        λ emits. Cause.journal_refused (inr (reopens, journal, _, inl (HasNoJournal.damaged at told), refl))

    not_run_caused : (text : List ℕ) (first : List Entry) (ending : Ending) → StandsFor members old text first
        → CannotRun text first ending → IsCaused ending
    not_run_caused text first _ told (CannotRun.no_plan fault other refused) =
        λ emits. Cause.journal_refused (inr (reopens, journal, _, inr (text, first, told, CannotRun.no_plan fault other refused), refl))
    not_run_caused text first _ told (CannotRun.start_runs_away tree compiled is) =
        λ emits. Cause.taken_up_runaway (reopens, journal, text, first, tree, told, compiled, is)
    not_run_caused text first _ told (CannotRun.event_runs_away tree at compiled away) =
        λ emits. Cause.journal_refused (inr (reopens, journal, _, inr (text, first, told, CannotRun.event_runs_away tree at compiled away), refl))

    -- the disk's plan and history are such
    taken_up : (text : List ℕ) (first : List Entry) (tree : Tree) (IsSuch : Tree → List Entry → Type 0)
        → StandsFor members old text first → IsCompiled text tree → IsSuch tree first → TakesUp members words old IsSuch
    taken_up text first tree IsSuch told compiled such = (reopens, journal, text, first, tree, told, compiled, such)

    done_by : (text : List ℕ) (first : List Entry) (tree : Tree) → StandsFor members old text first → IsCompiled text tree
        → IsSome (run (sites tree) (events_of first)) → ReadsScript words before now tree → Cause members words before now old new 0
    done_by text first tree told compiled runs scripts =
        Cause.taken_up (taken_up text first tree (λ t h. ReadsScript words before now t × IsSome (run (sites t) (events_of h))) told compiled (scripts, runs))

    after_journal : (Next : List ℕ → List Entry → Tree → Course → Due → Type 0) (course : Course) (due : Due)
        → ((text : List ℕ) (first : List Entry) (tree : Tree) → StandsFor members old text first → IsCompiled text tree
        → IsSome (run (sites tree) (events_of first)) → Next text first tree course due → AreCaused due)
        → AfterJournal members old new Next course due → AreCaused due
    after_journal Next _ _ behind (AfterJournal.not_read same) = tt
    after_journal Next _ _ behind AfterJournal.no_memory = tt
    after_journal Next _ _ behind (AfterJournal.disk_fails rose) = λ emits. Cause.disk_fault journal (inl reopens) rose
    after_journal Next _ _ behind (AfterJournal.no_journal_there ending none) = no_journal_caused ending none
    after_journal Next _ _ behind (AfterJournal.not_run text first ending told cannot) = not_run_caused text first ending told cannot
    after_journal Next _ _ behind (AfterJournal.opened text first tree course due told compiled runs next) = behind text first tree told compiled runs next

    trace_caused : (course : Course) (due : Due) → option_and_then script_operand (command words) ≡ None → TraceCalls members old new course due → AreCaused due
    trace_caused course due none calls =
        after_journal (λ text first tree. EndsIn (TakenUp text first) (session_ending (sites tree) first [])) course due
        (λ text first tree told compiled runs ends. ended tree first due (done_by text first tree told compiled runs (no_script tree none)) ends.1) calls
      where
        ended : (tree : Tree) (first : List Entry) (d : Due) → Cause members words before now old new 0 → d ≡ Some (session_ending (sites tree) first [])
            → AreCaused d
        ended tree first d carried_out is = rw is (λ emits. carried_out)

    names_caused : (asked : List ℕ) (course : Course) (due : Due) → command words ≡ Some (Names asked) → NamesCalls members old new course due → AreCaused due
    names_caused asked _ _ is (NamesCalls.not_read same) = tt
    names_caused asked _ _ is NamesCalls.no_memory = tt
    names_caused asked _ _ is (NamesCalls.disk_fails rose) = λ emits. Cause.disk_fault journal (inl reopens) rose
    names_caused asked _ _ is (NamesCalls.no_journal_there ending none) = no_journal_caused ending none
    names_caused asked _ _ is (NamesCalls.named text found told) = λ emits. Cause.named asked text found is told

    resume_caused : (script name : List ℕ) (limit : ℕ) (course : Course) (due : Due) → command words ≡ Some (Resume script name limit)
        → HasScript words script → ResumeCalls members script limit before now old new course due → AreCaused due
    resume_caused script name limit course due asked asks calls =
        after_journal (λ text first tree. AfterFile (script_file (sites tree)) before now script (TakenUp text first) (λ read c d.
        (session : Session) × (naming : Naming) × (c ≡ GoneOn session naming) × WasFound members old text first read.names naming
        × SessionCalls members tellings.Text (sites tree) text first limit (rest read.threads first) old new session d)) course due
        (λ text first tree told compiled runs after. after_operand Script (script_file (sites tree)) 4 HasScript script (TakenUp text first) _ course due
        (script_kind (sites tree)) asks
        (λ r. Cause.script_refused (inr (taken_up text first tree (λ t h. OperandIsRefused (script_file (sites t)) HasScript words before now) told compiled r)))
        (λ fails. Cause.read_fault (inr (inr (taken_up text first tree (λ t h. FailsToRead HasScript words before now) told compiled fails))))
        (λ spelled read (session, naming, is, found, (so, behind)). session_caused _ (sites tree) text first limit script spelled session due (Cause.disk_fault journal (inl reopens))
        (done_by text first tree told compiled runs (reads_script tree script spelled asks read))
        (λ stalls. StallsOver.of_taken_up script name limit text first tree asked told compiled stalls) read so behind) after) calls

  -- ---- a soak

  module _ (asked : IsSoak words) (count seed : ℕ) (tree : Tree) (compiled : IsCompiled soak_plan tree) where
    soak_starts : (IsSuch : Option (World × ℕ) → Type 0) → IsSuch (started (sites tree)) → Starts words before now IsSuch
    soak_starts IsSuch such = inr (asked, tree, compiled, such)

    -- behind its start
    module _ (starts : Starts words before now (λ found. IsSome found)) where
      soaked_caused : (session : Session) (due : Due) → IsNothing members old
          → DueBehind members tellings.Summary (sites tree) (rest (soak_threads count seed) []) session old new due → AreCaused due
      soaked_caused session due nothing =
          where_behind members tellings.Summary (sites tree) (rest (soak_threads count seed) []) session old new IsCaused due
          (λ emits. Cause.done starts (λ has. nothing))
          (λ waits stalled. absurd (soak_never_stalls (sites tree) session.first session.log count seed waits stalled))
          (λ rose emits. Cause.disk_fault (soak_journal words asked) (inr starts) rose)

      soak_made_caused : (text : List ℕ) (limit : ℕ) (course : Course) (due : Due)
          → NewCalls members tellings.Summary (sites tree) text limit (soak_lines count seed) old new course due → AreCaused due
      soak_made_caused text limit _ _ (NewCalls.exists told) = λ emits. Cause.journal_refused (inl (starts, soak_journal words asked, told))
      soak_made_caused text limit _ _ (NewCalls.half_made rose) = λ emits. Cause.disk_fault (soak_journal words asked) (inr starts) rose
      soak_made_caused text limit _ _ (NewCalls.made session due nothing (so, behind)) = soaked_caused session due nothing behind
      soak_made_caused text limit _ _ NewCalls.no_memory = tt

    soak_started_caused : (text : List ℕ) (limit : ℕ) (course : Course) (due : Due) (found : Option (World × ℕ)) → started (sites tree) ≡ found
        → RunCallsBy members tellings.Summary (sites tree) text limit (soak_lines count seed) old new course due found → AreCaused due
    soak_started_caused text limit course due None is (untouched, ends) =
        rw ends (caused_as runaway_at_start 6 refl (Cause.runaway (soak_starts (λ found. found ≡ None) is)))
    soak_started_caused text limit course due (Some settled) is calls =
        soak_made_caused (soak_starts (λ found. IsSome found) (rw is refl)) text limit course due calls

  soak_caused : (asked : IsSoak words) (count seed : ℕ) (course : Course) (due : Due) → SoakCalls members count seed old new course due → AreCaused due
  soak_caused asked count seed _ _ (SoakCalls.starts tree course due compiled calls) =
      soak_started_caused asked count seed tree compiled _ _ course due (started (sites tree)) refl calls
  soak_caused asked count seed _ _ SoakCalls.no_memory = tt

  -- ---- whatever the command

  caused_by : (asked : Option Command) (course : Course) (due : Due) → command words ≡ asked → CommandCallsFor members asked before now old new course due
      → AreCaused due
  caused_by None course due none (same, (untouched, is)) = rw is (λ emits. Cause.no_command none)
  caused_by (Some (TraceStart plan)) course due asks (same, calls) =
      trace_start_caused plan (ap (option_map runs_plan) asks) (ap (option_and_then plan_operand) asks) course due (ap (option_and_then script_operand) asks)
      (ap (option_and_then journal_operand) asks) calls
  caused_by (Some (DryRun plan script)) course due asks (same, calls) =
      dry_run_caused plan (ap (option_map runs_plan) asks) (ap (option_and_then plan_operand) asks) script course due (ap (option_and_then script_operand) asks)
      (ap (option_and_then journal_operand) asks) calls
  caused_by (Some (Check plan)) course due asks (same, calls) =
      after_plan plan (λ tree. EndsIn Untouched (nodes_ending tree)) course due (ap (option_and_then plan_operand) asks)
      (λ tree reads ends. checked tree due reads ends.1) calls
    where
      checked : (tree : Tree) (d : Due) → Reads plan_file before now plan tree → d ≡ Some (nodes_ending tree) → AreCaused d
      checked tree d reads is = rw is (λ emits. Cause.checked (ap (option_map runs_plan) asks) (plan, tree, ap (option_and_then plan_operand) asks, reads, tt))
  caused_by (Some (Format plan)) course due asks (same, calls) =
      after_operand (List ℕ × Tree) (with_text plan_file) 3 HasPlan plan Untouched (λ source. LaysOut source.0) course due (text_kind Tree plan_file 3 plan_kind)
      (ap (option_and_then plan_operand) asks) (λ r. Cause.plan_refused r) (λ fails. Cause.read_fault (inl fails))
      (λ source reads (tree, spelled, ends). laid_out source tree due (without_text before now plan source reads) ends.1) calls
    where
      laid_out : (source : List ℕ × Tree) (tree : PlanTree) (d : Due) → Reads plan_file before now plan source.1 → d ≡ Some (layout_ending tree) → AreCaused d
      laid_out source tree d reads is =
          rw is (λ emits. Cause.checked (ap (option_map runs_plan) asks) (plan, source.1, ap (option_and_then plan_operand) asks, reads, tt))
  caused_by (Some (Run plan script journal limit)) course due asks calls =
      run_is_caused plan (ap (option_map runs_plan) asks) (ap (option_and_then plan_operand) asks) script journal limit course due asks
      (ap (option_and_then script_operand) asks) (journal, ap (option_and_then journal_operand) asks) calls
  caused_by (Some (Resume script journal limit)) course due asks calls =
      resume_caused (ap (option_map takes_up) asks) (journal, ap (option_and_then journal_operand) asks) script journal limit course due asks
      (ap (option_and_then script_operand) asks) calls
  caused_by (Some (Trace journal)) course due asks calls =
      trace_caused (ap (option_map takes_up) asks) (journal, ap (option_and_then journal_operand) asks) course due (ap (option_and_then script_operand) asks) calls
  caused_by (Some (Names journal)) course due asks calls =
      names_caused (ap (option_map takes_up) asks) (journal, ap (option_and_then journal_operand) asks) journal course due asks calls
  caused_by (Some (Soak count seed journal)) course due asks calls = soak_caused (count, seed, journal, asks) count seed course due calls

  pub caused : (course : Course) (ending : Ending) → CommandCallsFor members (command words) before now old new course (Some ending) → IsCaused ending
  caused course ending calls = caused_by (command words) course (Some ending) refl calls

-- what holds of the status of an ending that was emitted, of that of a fault of the sink and of that of want of memory holds
-- of each status
pub of_status : {D : Type 0} (members : Disk.Ghosts D) (words : List (List ℕ)) (before now : View) (old new : D) (Holds : ℕ → Type 0) (status : ℕ)
    → ((course : Course) (ending : Ending) → CommandCallsFor members (command words) before now old new course (Some ending)
    → Emits before.emitted now.emitted ending.text → Holds ending.status)
    → (Faulted before now → Holds 8) → Holds 10 → Headline members words before now old new status → Holds status
of_status members words before now old new Holds _ whole sink memory (Headline.delivered course ending status calls leaves delivers) = by status delivers
  where
    by : (s : ℕ) → Delivers before now ending s → Holds s
    by _ (Delivers.whole emits) = whole course ending calls emits
    by _ (Delivers.sink_fault part fault) = sink fault
    by _ (Delivers.no_memory part) = memory
of_status members words before now old new Holds _ whole sink memory (Headline.nothing_emitted course calls leaves same) = memory

pub causes : {D : Type 0} (members : Disk.Ghosts D) (words : List (List ℕ)) (before now : View) (old new : D) (status : ℕ)
    → Headline members words before now old new status → Cause members words before now old new status
causes members words before now old new status =
    of_status members words before now old new (Cause members words before now old new) status (caused members words before now old new)
    (λ fault. Cause.sink_fault fault) Cause.no_memory

-- THE HEADLINE: what a call of the program emits, which status it answers, and what it leaves of the disk.
use Rattle.std.specs.Prelude.{◌≡◌, ◌⊎◌, ℕ, List, [], Option, Some, None}
use Rattle.std.specs.Option.{option_and_then}
use Rattle.px_core.specs.Plan.{Site, sites}
use Rattle.px_exec.specs.Executive.{TellsBytes}
use Rattle.px_output.specs.View.{View, Faulted, EmitsPart}
use Rattle.px_ports.specs.Host.{Emits}
use Rattle.px_ports.specs.declared.disk.Disk
use Rattle.px_script.specs.Order.{InFileOrder}
use Rattle.px_script.specs.declared.todo.Todo.{Todo}
use Rattle.px_sem.specs.Log.{Log, IsLegal, posted_in}
use Rattle.px_sem.specs.Run.{started}
use Rattle.px_words.specs.Limited.{event_limit}
use Rattle.px_words.specs.Words.{Command, TraceStart, DryRun, Check, Format, Run, Resume, Trace, Names, Soak, command, journal_operand}
use Rattle.px_run.specs.Course.{Course, Untouched, Due, EndsIn, AfterFile, Leaves}
use Rattle.px_ending.specs.Ending.{Ending, usage, nodes_ending, start_ending, log_ending, runaway_at_start}
use Rattle.px_run.specs.Format.{FormatCalls}
use Rattle.px_run.specs.Journaled.{RunCalls, ResumeCalls, TraceCalls, NamesCalls}
use Rattle.px_run.specs.Kinds.{plan_file, script_file}
use Rattle.px_run.specs.Soak.{SoakCalls}

-- ---- commands without a journal: the first refusal decides

-- all posts of a script by rising line number, waits passed over, with the answer that each gets from the start on
pub record IsDryRun (plan : List Site) (threads : List Todo) (log : Log) : Type 0 where
  pub order : InFileOrder threads (posted_in log)
  pub legal : IsLegal plan [] event_limit log

-- what a dry run of a script calls for: the text of its log, where the start settles
pub data DryRunOf (plan : List Site) (threads : List Todo) : Course → Due → Type 0 where
  runaway : started plan ≡ None → DryRunOf plan threads Untouched (Some runaway_at_start)
  whole : (log : Log) → IsDryRun plan threads log → DryRunOf plan threads Untouched (Some (log_ending plan log))
  no_memory : DryRunOf plan threads Untouched None

abbrev pub TraceStartCalls : List ℕ → View → View → Course → Due → Type 0
TraceStartCalls plan before now = AfterFile plan_file before now plan Untouched (λ tree. EndsIn Untouched (start_ending tree))

abbrev pub DryRunCalls : List ℕ → List ℕ → View → View → Course → Due → Type 0
DryRunCalls plan script before now =
    AfterFile plan_file before now plan Untouched (λ tree.
    AfterFile (script_file (sites tree)) before now script Untouched (λ read. DryRunOf (sites tree) read.threads))

abbrev pub CheckCalls : List ℕ → View → View → Course → Due → Type 0
CheckCalls plan before now = AfterFile plan_file before now plan Untouched (λ tree. EndsIn Untouched (nodes_ending tree))

module _ {D : Type 0} (members : Disk.Ghosts D) where
  -- WHAT A COMMAND AND ITS FILES CALL FOR, with what becomes of the journal. The first five make no call of the disk.
  abbrev pub CommandCallsFor : Option Command → View → View → D → D → Course → Due → Type 0
  CommandCallsFor None before now old new course due = (new ≡ old) × EndsIn Untouched usage course due
  CommandCallsFor (Some (TraceStart plan)) before now old new course due =
      (new ≡ old) × TraceStartCalls plan before now course due
  CommandCallsFor (Some (DryRun plan script)) before now old new course due =
      (new ≡ old) × DryRunCalls plan script before now course due
  CommandCallsFor (Some (Check plan)) before now old new course due = (new ≡ old) × CheckCalls plan before now course due
  CommandCallsFor (Some (Format plan)) before now old new course due = (new ≡ old) × FormatCalls plan before now course due
  CommandCallsFor (Some (Run plan script journal limit)) before now old new course due =
      RunCalls members plan script limit before now old new course due
  CommandCallsFor (Some (Resume script journal limit)) before now old new course due =
      ResumeCalls members script limit before now old new course due
  CommandCallsFor (Some (Trace journal)) before now old new course due = TraceCalls members old new course due
  CommandCallsFor (Some (Names journal)) before now old new course due = NamesCalls members old new course due
  CommandCallsFor (Some (Soak count seed journal)) before now old new course due = SoakCalls members count seed old new course due

  -- the disk is bound to the command's journal, or to none
  abbrev pub IsBoundFor : Option Command → D → Type 0
  IsBoundFor asked disk = (members.bound_to disk ≡ None) ⊎ ((journal : List ℕ) × (option_and_then journal_operand asked ≡ Some journal) × (members.bound_to disk ≡ Some journal))

-- the whole text, under its own status; a front of it, where the sink failed or took nothing; or a front of it, for want of
-- memory
pub data Delivers (old new : View) (ending : Ending) : ℕ → Type 0 where
  whole : Emits old.emitted new.emitted ending.text → Delivers old new ending ending.status
  sink_fault : EmitsPart old new ending.text → Faulted old new → Delivers old new ending 8
  no_memory : EmitsPart old new ending.text → Delivers old new ending 10

-- A call has a course, and leaves of the disk what that course does. It delivers the ending that is due, or ends for want
-- of memory before anything is emitted.
pub data Headline {D : Type 0} (members : Disk.Ghosts D) (words : List (List ℕ)) (before now : View) (old new : D) : ℕ → Type 0 where
  delivered :
      (course : Course) (ending : Ending) (status : ℕ) → CommandCallsFor members (command words) before now old new course (Some ending)
      → (TellsBytes members old → Leaves members old new course) → Delivers before now ending status
      → Headline members words before now old new status
  nothing_emitted :
      (course : Course) → CommandCallsFor members (command words) before now old new course None
      → (TellsBytes members old → Leaves members old new course) → now.emitted ≡ before.emitted
      → Headline members words before now old new 10

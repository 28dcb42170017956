-- How a command ends: its status, and all of its text.
use Rattle.std.specs.Prelude.{ℕ, List, [], ◌++◌, Option, Some, None, codes, decimal}
use Rattle.px_core.specs.Plan.{Site, Tree, sites, count_of}
use Rattle.px_event.specs.declared.entry.Entry.{Entry}
use Rattle.px_sem.specs.World.{World}
use Rattle.px_sem.specs.Log.{Log}
use Rattle.px_sem.specs.Run.{started}
use Rattle.px_sem.specs.Text.{line, text_of}
use Rattle.px_script.specs.declared.stall.Stall.{Stall}
use Rattle.px_event.specs.declared.named.NamedEntry.{NamedEntry}
use Rattle.px_trace.specs.Names.{name_lines}
use Rattle.px_output.specs.Stalls.{stall_lines}
use Rattle.px_syntax.specs.declared.fault.PlanFault.{PlanFault}
use Rattle.px_ending.specs.PlanRefusal.{plan_reason}

-- a status and a text
pub record Ending : Type 0 where
  pub status : ℕ
  pub text : List ℕ

-- a refusal is a line that gives the reason
abbrev pub refusal : ℕ → List ℕ → Ending
refusal status reason = record { status = status; text = line reason }

abbrev pub usage : Ending
usage = refusal 2 (codes "usage: plexil trace-start PLAN | dry-run PLAN SCRIPT | run PLAN SCRIPT JOURNAL [--events N] | resume SCRIPT JOURNAL [--events N] | trace JOURNAL | check PLAN | format PLAN | soak COUNT SEED JOURNAL | names JOURNAL")

abbrev pub plan_too_long : Ending
plan_too_long = refusal 3 (codes "plan refused: longer than 1048576 bytes")

-- why the bytes are no plan that can be run
abbrev pub plan_at_fault : PlanFault → Ending
plan_at_fault fault = refusal 3 (codes "plan refused: " ++ plan_reason fault)

abbrev pub script_too_long : Ending
script_too_long = refusal 4 (codes "script refused: longer than 16777216 bytes")

-- the first faulty line, and the kind of its fault
abbrev pub script_at_fault : ℕ → ℕ → Ending
script_at_fault number kind =
    refusal 4 (codes "script refused: line " ++ (decimal number ++ (codes " kind " ++ decimal kind)))

abbrev pub runaway_at_start : Ending
runaway_at_start = refusal 6 (codes "runaway at start")

abbrev pub read_fault : Ending
read_fault = refusal 7 (codes "read fault")

-- ---- journals

abbrev pub journal_refused : List ℕ → Ending
journal_refused reason = refusal 5 (codes "journal refused: " ++ reason)

-- one stands where a new one was to be made; none stands where one was to be read
abbrev pub journal_exists : Ending
journal_exists = journal_refused (codes "exists")

abbrev pub no_journal : Ending
no_journal = journal_refused (codes "none")

abbrev pub journal_damaged : ℕ → Ending
journal_damaged at = journal_refused (codes "damaged at byte " ++ decimal at)

-- its text is no plan that can be run; or this event of its history is the first that does not settle
abbrev pub journal_plan : Ending
journal_plan = journal_refused (codes "plan")

abbrev pub journal_runaway : ℕ → Ending
journal_runaway at = journal_refused (codes "runaway at event " ++ decimal at)

abbrev pub disk_fault : Ending
disk_fault = refusal 9 (codes "disk fault")

-- ---- plans

-- how many nodes a plan has
abbrev pub nodes_ending : Tree → Ending
nodes_ending tree = record { status = 0; text = line (codes "ok " ++ (decimal (count_of tree) ++ codes " nodes")) }

-- ---- runs

-- the text of a log that goes on from a history; of one from the start
abbrev pub session_ending : List Site → List Entry → Log → Ending
session_ending plan first log = record { status = 0; text = text_of plan first log }

abbrev pub log_ending : List Site → Log → Ending
log_ending plan log = session_ending plan [] log

-- the text of the start alone, or the refusal of one that does not settle
abbrev pub of_start : List Site → Option (World × ℕ) → Ending
of_start plan None = runaway_at_start
of_start plan (Some settled) = log_ending plan []

abbrev pub start_ending : Tree → Ending
start_ending tree = of_start (sites tree) (started (sites tree))

-- the text of a log behind which threads stand at these waits
abbrev pub stalled_ending : List Site → List Entry → Log → List Stall → Ending
stalled_ending plan first log stalls = record { status = 11; text = text_of plan first log ++ stall_lines stalls }

-- the names of a journal's entries
abbrev pub names_ending : List NamedEntry → Ending
names_ending named = record { status = 0; text = name_lines 1 named }

-- What stops a command, and what it has emitted then.
use Rattle.std.specs.Prelude.{◌≡◌, ◌⊎◌, ℕ, List, Some, None, Result, Ok, Err}
use Rattle.px_ports.specs.Host.{Emits}
use Rattle.px_journal.specs.declared.fault.CreateWhy.{CreateWhy}
use Rattle.px_journal.specs.declared.fault.CreateWhy.TheVariants as creating
use Rattle.px_journal.specs.declared.fault.RecoverWhy.{RecoverWhy}
use Rattle.px_journal.specs.declared.fault.RecoverWhy.TheVariants as recovering
use Rattle.px_session.specs.declared.fault.ReopenWhy.{ReopenWhy}
use Rattle.px_session.specs.declared.fault.ReopenWhy.TheVariants as reopening
use Rattle.px_sem.specs.declared.settling.StepFault.{StepFault}
use Rattle.px_sem.specs.declared.settling.StepFault.TheVariants as steps
use Rattle.px_syntax.specs.declared.fault.PlanFault.{PlanFault}
use Rattle.px_syntax.specs.declared.fault.PlanFault.TheVariants as plans
use Rattle.px_ending.specs.declared.refusal.Refusal.{Refusal}
use Rattle.px_ending.specs.declared.refusal.Refusal.TheVariants as refusals
use Rattle.px_ending.specs.declared.status.End.{End}
use Rattle.px_run.specs.declared.stop.Stop.{Stop}
use Rattle.px_run.specs.declared.stop.Stop.TheVariants as stops
use Rattle.px_output.specs.declared.printer.PrintFault.{PrintFault}
use Rattle.px_output.specs.declared.printer.PrintFault.TheVariants as faults
use Rattle.px_ending.specs.Statuses.{number_of, status_of, ending_of}
use Rattle.px_run.specs.Course.{Due}
use Rattle.px_ending.specs.Ending.{Ending}
use Rattle.px_run.specs.Reading.{FileKind, Seen, Longer, Unreadable, Shows, Refuses}
use Rattle.px_output.specs.View.{View, Faulted, EmitsPart}

abbrev pub stop_of : PrintFault → Stop
stop_of faults.SinkFailed = stops.SinkFailed
stop_of faults.NoMemory = stops.NoMemory

abbrev pub stop_of_plan : PlanFault → Stop
stop_of_plan plans.NoMemory = stops.NoMemory
stop_of_plan fault = stops.Refused (refusals.PlanAtFault fault)

abbrev pub stop_of_start : StepFault → Stop
stop_of_start steps.Runaway = stops.Refused refusals.RunawayAtStart
stop_of_start steps.NoMemory = stops.NoMemory

abbrev pub stop_of_create : CreateWhy → Stop
stop_of_create creating.Exists = stops.Refused refusals.JournalExists
stop_of_create creating.DiskFault = stops.Refused refusals.DiskFault
stop_of_create creating.NoMemory = stops.NoMemory

abbrev pub stop_of_recover : RecoverWhy → Stop
stop_of_recover recovering.NoJournal = stops.Refused refusals.NoJournal
stop_of_recover (recovering.Damaged at) = stops.Refused (refusals.JournalDamaged at)
stop_of_recover recovering.DiskFault = stops.Refused refusals.DiskFault
stop_of_recover recovering.NoMemory = stops.NoMemory

abbrev pub stop_of_reopen : ReopenWhy → Stop
stop_of_reopen reopening.NoJournal = stops.Refused refusals.NoJournal
stop_of_reopen (reopening.Damaged at) = stops.Refused (refusals.JournalDamaged at)
stop_of_reopen reopening.PlanRefused = stops.Refused refusals.JournalPlan
stop_of_reopen reopening.RunawayAtStart = stops.Refused refusals.RunawayAtStart
stop_of_reopen (reopening.Runaway at) = stops.Refused (refusals.JournalRunaway at)
stop_of_reopen reopening.DiskFault = stops.Refused refusals.DiskFault
stop_of_reopen reopening.NoMemory = stops.NoMemory

-- what stops a fetch: the file has more bytes than the limit, or it can't be read
abbrev pub StopsFetching : ℕ → View → View → List ℕ → Refusal → Stop → Type 0
StopsFetching limit old new name too_long (stops.Refused refusal) =
    (Shows limit old new name Longer × (refusal ≡ too_long))
    ⊎ (Shows limit old new name Unreadable × (refusal ≡ refusals.ReadFault))
StopsFetching limit old new name too_long stops.SinkFailed = ⊥
StopsFetching limit old new name too_long stops.NoMemory = Unit {0}

-- what stops the reading of a file
abbrev pub StopsReading : {A : Type 0} → FileKind A → View → View → List ℕ → Stop → Type 0
StopsReading kind old new name (stops.Refused refusal) =
    (seen : Seen) × Shows kind.limit old new name seen × Refuses kind seen (ending_of refusal)
StopsReading kind old new name stops.SinkFailed = ⊥
StopsReading kind old new name stops.NoMemory = Unit {0}

-- WHAT A COMMAND HAS DONE by what is due: it has printed all of the text, under its status; or is refused, which is still to
-- be printed; or has printed a front, or nothing where memory ran out before an ending was due
abbrev pub Performs : View → View → (Due → Type 0) → Result End Stop → Type 0
Performs old new Calls (Ok end) =
    (ending : Ending) × Calls (Some ending) × (ending.status ≡ number_of (status_of end)) × Emits old.emitted new.emitted ending.text
Performs old new Calls (Err (stops.Refused refusal)) = Calls (Some (ending_of refusal)) × (new.emitted ≡ old.emitted)
Performs old new Calls (Err stops.SinkFailed) =
    (ending : Ending) × Calls (Some ending) × EmitsPart old new ending.text × Faulted old new
Performs old new Calls (Err stops.NoMemory) =
    ((ending : Ending) × Calls (Some ending) × EmitsPart old new ending.text) ⊎ (Calls None × (new.emitted ≡ old.emitted))

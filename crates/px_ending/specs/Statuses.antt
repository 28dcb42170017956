-- The number of each status, the status of each end, and the ending of each refusal.
use Rattle.std.specs.Prelude.{ℕ}
use Rattle.px_ending.specs.declared.status.Status.{Status}
use Rattle.px_ending.specs.declared.status.Status.TheVariants as statuses
use Rattle.px_ending.specs.declared.status.End.{End}
use Rattle.px_ending.specs.declared.status.End.TheVariants as ends
use Rattle.px_ending.specs.declared.refusal.Refusal.{Refusal}
use Rattle.px_ending.specs.declared.refusal.Refusal.TheVariants as refusals
use Rattle.px_ending.specs.Ending.{Ending, usage, plan_too_long, plan_at_fault, script_too_long, script_at_fault, runaway_at_start, read_fault, journal_exists, no_journal, journal_damaged, journal_plan, journal_runaway, disk_fault}

abbrev pub number_of : Status → ℕ
number_of statuses.Done = 0
number_of statuses.NoCommand = 2
number_of statuses.PlanRefused = 3
number_of statuses.ScriptRefused = 4
number_of statuses.JournalRefused = 5
number_of statuses.Runaway = 6
number_of statuses.ReadFault = 7
number_of statuses.SinkFault = 8
number_of statuses.DiskFault = 9
number_of statuses.NoMemory = 10
number_of statuses.Stalled = 11

-- a command that is not refused is carried out to its end, or its threads are stalled
abbrev pub status_of : End → Status
status_of ends.Done = statuses.Done
status_of ends.Stalled = statuses.Stalled

abbrev pub ending_of : Refusal → Ending
ending_of refusals.Usage = usage
ending_of refusals.PlanTooLong = plan_too_long
ending_of (refusals.PlanAtFault fault) = plan_at_fault fault
ending_of refusals.ScriptTooLong = script_too_long
ending_of (refusals.ScriptAtFault line kind) = script_at_fault line kind
ending_of refusals.RunawayAtStart = runaway_at_start
ending_of refusals.ReadFault = read_fault
ending_of refusals.JournalExists = journal_exists
ending_of refusals.NoJournal = no_journal
ending_of (refusals.JournalDamaged at) = journal_damaged at
ending_of refusals.JournalPlan = journal_plan
ending_of (refusals.JournalRunaway at) = journal_runaway at
ending_of refusals.DiskFault = disk_fault

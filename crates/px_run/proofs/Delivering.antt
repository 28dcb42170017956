-- From what was performed to the headline.
use Rattle.std.proofs.Common.{◌≡◌, ℕ, inl, inr, List, [], Option, Some, None, Ok, Err, refl, subst, sym}
use Rattle.px_core.specs.Plan.{Tree, sites}
use Rattle.px_event.specs.declared.entry.Entry.{Entry}
use Rattle.px_ports.specs.Host.{Emits}
use Rattle.px_ports.specs.declared.disk.Disk
use Rattle.px_output.specs.declared.printer.PrintFault.TheVariants.{SinkFailed}
use Rattle.px_output.specs.Printing.{Prints}
use Rattle.px_output.specs.View.{View, EmitsPart, OnlyPrints, KeepsFiles}
use Rattle.px_output.proofs.Printed.{faulted_later, emits_nothing, emitted_whole, emitted_part, piece_printed}
use Rattle.px_script.specs.declared.script.Script.{Script}
use Rattle.px_words.specs.Words.{Command, TraceStart, DryRun, Check, Format, Run, Resume, Trace, Names, Soak, command}
use Rattle.px_ending.specs.declared.status.End.{End}
use Rattle.px_ending.specs.declared.refusal.Refusal.{Refusal}
use Rattle.px_run.specs.declared.stop.Stop.{Stop}
use Rattle.px_run.specs.declared.stop.Stop.TheVariants as stops
use Rattle.px_run.specs.declared.finishing.Carried.{Carried}
use Rattle.px_run.specs.Course.{Course, Untouched, TakenUp, Due, AfterFile}
use Rattle.px_ending.specs.Ending.{Ending}
use Rattle.px_run.specs.Reading.{FileKind, with_text}
use Rattle.px_run.specs.Top.{Performed}
use Rattle.px_run.specs.Headline.{CommandCallsFor, Delivers, Headline}
use Rattle.px_run.specs.Journaled.{AfterJournal}
use Rattle.px_run.specs.Kinds.{plan_file, script_file}
use Rattle.px_run.specs.Stops.{Performs}
use Rattle.px_ending.specs.Statuses.{number_of, status_of, ending_of}
use Rattle.px_run.proofs.SeenFiles.{after_later, reads_kept}

-- ---- what is called for stays so while a refusal is printed

module _ (before mid now : View) (only : OnlyPrints mid now) where
  later : (A : Type 0) (kind : FileKind A) (name : List ℕ) (so_far : Course) (Next More : A → Course → Due → Type 0) (course : Course) (due : Due)
      → ((part : A) → Next part course due → More part course due) → AfterFile kind before mid name so_far Next course due
      → AfterFile kind before now name so_far More course due
  later A kind name so_far Next More course due widen after =
      after_later A kind before mid now name so_far Next More course due (reads_kept mid now only) widen after

  module _ {D : Type 0} (members : Disk.Ghosts D) (old new : D) where
    after_journal_later : (Next More : List ℕ → List Entry → Tree → Course → Due → Type 0) (course : Course) (due : Due)
        → ((text : List ℕ) (first : List Entry) (tree : Tree) (c : Course) (d : Due) → Next text first tree c d → More text first tree c d)
        → AfterJournal members old new Next course due → AfterJournal members old new More course due
    after_journal_later Next More _ _ widen (AfterJournal.not_read same) = AfterJournal.not_read same
    after_journal_later Next More _ _ widen AfterJournal.no_memory = AfterJournal.no_memory
    after_journal_later Next More _ _ widen (AfterJournal.disk_fails rose) = AfterJournal.disk_fails rose
    after_journal_later Next More _ _ widen (AfterJournal.no_journal_there ending none) = AfterJournal.no_journal_there ending none
    after_journal_later Next More _ _ widen (AfterJournal.not_run text first ending stands cannot) =
        AfterJournal.not_run text first ending stands cannot
    after_journal_later Next More _ _ widen (AfterJournal.opened text first tree course due stands compiled runs next) =
        AfterJournal.opened text first tree course due stands compiled runs (widen text first tree course due next)

    calls_later : (asked : Option Command) (course : Course) (due : Due) → CommandCallsFor members asked before mid old new course due
        → CommandCallsFor members asked before now old new course due
    calls_later None course due calls = calls
    calls_later (Some (TraceStart plan)) course due (same, calls) =
        (same, later Tree plan_file plan Untouched _ _ course due (λ tree ends. ends) calls)
    calls_later (Some (DryRun plan script)) course due (same, calls) = (
      same,
      later Tree plan_file plan Untouched _ _ course due
          (λ tree next. later Script (script_file (sites tree)) script Untouched _ _ course due (λ read ends. ends) next) calls,
    )
    calls_later (Some (Check plan)) course due (same, calls) =
        (same, later Tree plan_file plan Untouched _ _ course due (λ tree ends. ends) calls)
    calls_later (Some (Format plan)) course due (same, calls) =
        (same, later (List ℕ × Tree) (with_text plan_file) plan Untouched _ _ course due (λ source laid. laid) calls)
    calls_later (Some (Run plan script journal limit)) course due calls =
        later (List ℕ × Tree) (with_text plan_file) plan Untouched _ _ course due
        (λ source next. later Script (script_file (sites source.1)) script Untouched _ _ course due (λ read ends. ends) next) calls
    calls_later (Some (Resume script journal limit)) course due calls =
        after_journal_later _ _ course due
        (λ text first tree c d next. later Script (script_file (sites tree)) script (TakenUp text first) _ _ c d (λ read ends. ends) next) calls
    calls_later (Some (Trace journal)) course due calls = calls
    calls_later (Some (Names journal)) course due calls = calls
    calls_later (Some (Soak count seed journal)) course due calls = calls

delivers_after : (before mid now : View) (ending : Ending) (status : ℕ) → KeepsFiles before mid → mid.emitted ≡ before.emitted
    → Delivers mid now ending status → Delivers before now ending status
delivers_after before mid now ending _ keeps same (Delivers.whole emits) = Delivers.whole (rw (← same) emits)
delivers_after before mid now ending _ keeps same (Delivers.sink_fault part fault) =
    Delivers.sink_fault (rw (← same) part) (faulted_later before mid now keeps.write_faults keeps.idle fault)
delivers_after before mid now ending _ keeps same (Delivers.no_memory part) = Delivers.no_memory (rw (← same) part)

-- ---- from what a command has performed

module _ {D : Type 0} (members : Disk.Ghosts D) (words : List (List ℕ)) (before mid : View) (old : D) (carried : Carried D)
    (performed : Performed members (command words) before mid old carried) where
  performed_by : (stop why : Stop) → carried.result ≡ Err stop → stop ≡ why
      → Performs before mid (CommandCallsFor members (command words) before mid old carried.disk performed.course) (Err why)
  performed_by stop why stopped is =
      subst (λ s. Performs before mid (CommandCallsFor members (command words) before mid old carried.disk performed.course) (Err s)) is
      (subst (Performs before mid (CommandCallsFor members (command words) before mid old carried.disk performed.course)) stopped performed.performs)

  pub refusal_delivered : (refusal : Refusal) (now : View) (status : ℕ) (stop : Stop) → carried.result ≡ Err stop → stop ≡ stops.Refused refusal → KeepsFiles before mid
      → Delivers mid now (ending_of refusal) status → OnlyPrints mid now → Headline members words before now old carried.disk status
  refusal_delivered refusal now status stop stopped is keeps delivers only =
      let (calls, same) = performed_by stop (stops.Refused refusal) stopped is in
      Headline.delivered performed.course (ending_of refusal) status
      (calls_later before mid now only members old carried.disk (command words) performed.course (Some (ending_of refusal)) calls)
      performed.leaves (delivers_after before mid now (ending_of refusal) status keeps same delivers)

  pub done_delivered : (end : End) → carried.result ≡ Ok end → Headline members words before mid old carried.disk (number_of (status_of end))
  done_delivered end is =
      let (ending, calls, status, emits) = rw is at performed.performs in
      subst (Headline members words before mid old carried.disk) status
      (Headline.delivered performed.course ending ending.status calls performed.leaves (Delivers.whole emits))

  pub fault_delivered : (stop : Stop) → carried.result ≡ Err stop → stop ≡ stops.SinkFailed → Headline members words before mid old carried.disk 8
  fault_delivered stop stopped is =
      let (ending, calls, part, fault) = performed_by stop stops.SinkFailed stopped is in
      Headline.delivered performed.course ending 8 calls performed.leaves (Delivers.sink_fault part fault)

  pub memory_delivered : (stop : Stop) → carried.result ≡ Err stop → stop ≡ stops.NoMemory → Headline members words before mid old carried.disk 10
  memory_delivered stop stopped is =
      elim (performed_by stop stops.NoMemory stopped is) [
        | inl w ↦ Headline.delivered performed.course w.0 10 (w.1) performed.leaves (Delivers.no_memory (w.2))
        | inr w ↦ Headline.nothing_emitted performed.course (w.0) performed.leaves (w.1)
      ]

-- ---- the text of an ending by itself

pub emits_none : (v : View) (ending : Ending) → Delivers v v ending 10
emits_none v ending = Delivers.no_memory ([], ending.text, refl, emits_nothing v.emitted)

pub emits_all : (old new : View) (ending : Ending) (text : List ℕ) (status : ℕ) → text ≡ ending.text → status ≡ ending.status
    → Prints {T = Unit} old text new [] [] (Ok tt) → Delivers old new ending status
emits_all old new ending text status is number prints =
    subst (Delivers old new ending) (sym number)
    (Delivers.whole (subst (λ bytes. Emits old.emitted new.emitted bytes) is
    (emitted_whole old new text (piece_printed {T = Unit} old new [] text [] text (Ok tt) refl prints))))

pub emits_till_fault : (old new : View) (ending : Ending) (text : List ℕ) → text ≡ ending.text
    → Prints {T = Unit} old text new [] [] (Err SinkFailed) → Delivers old new ending 8
emits_till_fault old new ending text is prints =
    let ((left, leaves), faulted) = piece_printed {T = Unit} old new [] text [] text (Err SinkFailed) refl prints in
    Delivers.sink_fault (subst (EmitsPart old new) is (emitted_part old new left text leaves)) faulted

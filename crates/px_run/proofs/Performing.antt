-- What a command has performed, from what it read and printed.
use Rattle.std.proofs.Common.{◌≡◌, ℕ, ◌≤◌, inl, inr, List, [], Some, None, Result, Ok, Err, IsErrAnd, refl, arith, ◌∙◌}
use Rattle.px_sem.specs.declared.settling.StepFault.{StepFault}
use Rattle.px_sem.specs.declared.settling.StepFault.TheVariants as steps
use Rattle.px_output.proofs.Printed.{faulted_later, emitted_whole, emitted_part}
use Rattle.px_output.specs.Printing.{Prints}
use Rattle.px_output.specs.View.{View, OnlyPrints, OnlyReads}
use Rattle.px_output.specs.declared.printer.PrintFault.{PrintFault}
use Rattle.px_output.specs.declared.printer.PrintFault.TheVariants.{SinkFailed, NoMemory}
use Rattle.px_run.specs.Course.{Course, Due, AfterFile}
use Rattle.px_ending.specs.Ending.{Ending, runaway_at_start}
use Rattle.px_run.specs.Reading.{FileKind, Reads}
use Rattle.px_run.specs.Stops.{stop_of, stop_of_start, StopsReading, Performs}
use Rattle.px_ending.specs.Statuses.{number_of, status_of, ending_of}
use Rattle.px_ending.specs.declared.status.End.{End}
use Rattle.px_run.specs.declared.stop.Stop.{Stop}
use Rattle.px_run.specs.declared.stop.Stop.TheVariants as stops
use Rattle.px_run.proofs.SeenFiles.{shows_later, reads_at_once, reads_kept}

-- ---- what is performed, seen from further off

-- what is performed behind reads that touched nothing else
pub performs_since : (old mid new : View) (Calls More : Due → Type 0) (r : Result End Stop) → OnlyReads old mid
    → ((due : Due) → Calls due → More due) → Performs mid new Calls r → Performs old new More r
performs_since old mid new Calls More (Ok end) only widen (ending, is, status, emits) =
    (ending, widen (Some ending) is, status, rw (← only.emitted) emits)
performs_since old mid new Calls More (Err (stops.Refused refusal)) only widen (is, same) =
    (widen (Some (ending_of refusal)) is, same ∙ only.emitted)
performs_since old mid new Calls More (Err stops.SinkFailed) only widen (ending, is, part, fault) =
    (ending, widen (Some ending) is, rw (← only.emitted) part, faulted_later old mid new (omega (arith, only.write_faults)) (omega (arith, only.idle)) fault)
performs_since old mid new Calls More (Err stops.NoMemory) only widen (inl (ending, is, part)) =
    inl (ending, widen (Some ending) is, rw (← only.emitted) part)
performs_since old mid new Calls More (Err stops.NoMemory) only widen (inr (none, same)) = inr (widen None none, same ∙ only.emitted)

pub performs_more : (old new : View) (Calls More : Due → Type 0) (r : Result End Stop) → ((due : Due) → Calls due → More due)
    → Performs old new Calls r → Performs old new More r
performs_more old new Calls More r widen performs = performs_since old old new Calls More r (reads_at_once old) widen performs

-- behind a file that was read
pub performs_behind : (A : Type 0) (kind : FileKind A) (old mid new : View) (name : List ℕ) (part : A) (so_far : Course)
    (Next : A → Course → Due → Type 0) (course : Course) (r : Result End Stop) → Reads kind old mid name part → OnlyReads old mid
    → ((other : List ℕ) → mid.read_faults other ≤ new.read_faults other) → Performs mid new (Next part course) r
    → Performs old new (AfterFile kind old new name so_far Next course) r
performs_behind A kind old mid new name part so_far Next course r (seen, shows, spells) only later performs =
    performs_since old mid new (Next part course) (AfterFile kind old new name so_far Next course) r only
    (λ due next. AfterFile.read seen part course due (shows_later kind.limit old mid new name seen later shows) spells next) performs

-- ---- what stops a command

-- a file that can't be read
pub reading_stopped : (A : Type 0) (kind : FileKind A) (old new : View) (name : List ℕ) (so_far : Course) (Next : A → Course → Due → Type 0)
    (stop : Stop) (r : Result End Stop) → IsErrAnd r (λ e. e ≡ stop) → StopsReading kind old new name stop → OnlyReads old new
    → Performs old new (AfterFile kind old new name so_far Next so_far) r
reading_stopped A kind old new name so_far Next stop (Ok end) is stopped only = absurd is
reading_stopped A kind old new name so_far Next (stops.Refused refusal) (Err e) is (seen, shows, refuses) only =
    rw is (AfterFile.refused seen (ending_of refusal) shows refuses, only.emitted)
reading_stopped A kind old new name so_far Next stops.SinkFailed (Err e) is none only = absurd none
reading_stopped A kind old new name so_far Next stops.NoMemory (Err e) is any only = rw is (inr (AfterFile.no_memory, only.emitted))

-- want of memory before an ending is due
pub memory_stopped : (old new : View) (Calls : Due → Type 0) (r : Result End Stop) → IsErrAnd r (λ e. e ≡ stops.NoMemory) → Calls None
    → OnlyReads old new → Performs old new Calls r
memory_stopped old new Calls (Ok end) is none only = absurd is
memory_stopped old new Calls (Err e) is none only = rw is (inr (none, only.emitted))

-- a start that runs away, or for which memory is wanting
pub start_stopped : (old new : View) (Calls : Due → Type 0) (fault : StepFault) (r : Result End Stop) → IsErrAnd r (λ e. e ≡ stop_of_start fault)
    → (fault ≡ steps.Runaway → Calls (Some runaway_at_start)) → Calls None → OnlyReads old new → Performs old new Calls r
start_stopped old new Calls fault (Ok end) is runaway none only = absurd is
start_stopped old new Calls steps.Runaway (Err e) is runaway none only = rw is (runaway refl, only.emitted)
start_stopped old new Calls steps.NoMemory (Err e) is runaway none only = rw is (inr (none, only.emitted))

-- ---- what is printed

-- the text of an ending breaks off
pub broken_off : (old new : View) (Calls : Due → Type 0) (ending : Ending) (fault : PrintFault) (r : Result End Stop) → Calls (Some ending)
    → IsErrAnd r (λ stop. stop ≡ stop_of fault) → Prints {T = Unit} old [] new [] ending.text (Err fault) → Performs old new Calls r
broken_off old new Calls ending fault (Ok end) is stops p = absurd stops
broken_off old new Calls ending SinkFailed (Err stop) is stops ((left, leaves), faulted) =
    rw stops (ending, is, emitted_part old new left ending.text leaves, faulted)
broken_off old new Calls ending NoMemory (Err stop) is stops (left, leaves) =
    rw stops (inl (ending, is, emitted_part old new left ending.text leaves))

-- or is printed whole
pub printed : (old new : View) (Calls : Due → Type 0) (end : End) (ending : Ending) → Calls (Some ending) → ending.status ≡ number_of (status_of end)
    → Prints {T = Unit} old [] new [] ending.text (Ok tt) → Performs old new Calls (Ok end)
printed old new Calls end ending is status leaves = (ending, is, status, emitted_whole old new ending.text leaves)

-- the same behind a file that was read
pub printed_behind : (A : Type 0) (kind : FileKind A) (old mid new : View) (name : List ℕ) (part : A) (so_far : Course)
    (Next : A → Course → Due → Type 0) (course : Course) (end : End) (ending : Ending) → Reads kind old mid name part → OnlyReads old mid
    → OnlyPrints mid new → Next part course (Some ending) → ending.status ≡ number_of (status_of end)
    → Prints {T = Unit} mid [] new [] ending.text (Ok tt) → Performs old new (AfterFile kind old new name so_far Next course) (Ok end)
printed_behind A kind old mid new name part so_far Next course end ending reads only prints_only next status prints =
    performs_behind A kind old mid new name part so_far Next course (Ok end) reads only (reads_kept mid new prints_only)
    (printed mid new (Next part course) end ending next status prints)

pub broken_off_behind : (A : Type 0) (kind : FileKind A) (old mid new : View) (name : List ℕ) (part : A) (so_far : Course)
    (Next : A → Course → Due → Type 0) (course : Course) (ending : Ending) (fault : PrintFault) (r : Result End Stop) → Reads kind old mid name part
    → OnlyReads old mid → OnlyPrints mid new → Next part course (Some ending) → IsErrAnd r (λ stop. stop ≡ stop_of fault)
    → Prints {T = Unit} mid [] new [] ending.text (Err fault) → Performs old new (AfterFile kind old new name so_far Next course) r
broken_off_behind A kind old mid new name part so_far Next course ending fault r reads only prints_only next stops prints =
    performs_behind A kind old mid new name part so_far Next course r reads only (reads_kept mid new prints_only)
    (broken_off mid new (Next part course) ending fault r next stops prints)

-- a start behind it
pub start_stopped_behind : (A : Type 0) (kind : FileKind A) (old mid : View) (name : List ℕ) (part : A) (so_far : Course)
    (Next : A → Course → Due → Type 0) (fault : StepFault) (r : Result End Stop) → Reads kind old mid name part → OnlyReads old mid
    → IsErrAnd r (λ e. e ≡ stop_of_start fault) → (fault ≡ steps.Runaway → Next part so_far (Some runaway_at_start))
    → Performs old mid (AfterFile kind old mid name so_far Next so_far) r
start_stopped_behind A kind old mid name part so_far Next fault r (seen, shows, spells) only is runaway =
    start_stopped old mid (AfterFile kind old mid name so_far Next so_far) fault r is
    (λ away. AfterFile.read seen part so_far (Some runaway_at_start) shows spells (runaway away)) AfterFile.no_memory only

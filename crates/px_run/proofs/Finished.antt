-- The end of a session, from what its posts have come to and what was printed.
use Rattle.std.proofs.Common.{◌≡◌, ◌⊎◌, ◌≤◌, inr, ℕ, List, [], ◌++◌, Option, Some, None, IsSome, IfSome, Result, Ok, Err, length, refl, sym, ◌∙◌, ap, subst, arith}
use Rattle.std.specs.Prelude.{IsErrOf}
use Rattle.px_core.specs.Plan.{Site}
use Rattle.px_crew.specs.Crew.{Ends}
use Rattle.px_event.specs.declared.entry.Entry.{Entry}
use Rattle.px_exec.specs.Executive.{Executive, plan_of, IsTextOf, TellsBytes}
use Rattle.px_journal.specs.Crash.{LeavesOnly}
use Rattle.px_journal.specs.Goes.{Goes}
use Rattle.px_journal.specs.Layout.{Stands}
use Rattle.px_journal.proofs.Going.{goes_told}
use Rattle.px_journal.proofs.Moments.{grows_length, leaves_on, leaves_more}
use Rattle.px_journal.proofs.Ready.{ready_stands, ready_synced}
use Rattle.px_output.specs.Printing.{Prints}
use Rattle.px_output.specs.View.{View}
use Rattle.px_output.specs.declared.printer.PrintFault.{PrintFault}
use Rattle.px_output.specs.declared.printer.PrintFault.TheVariants as faults
use Rattle.px_ports.specs.Host.{Rose}
use Rattle.px_ports.specs.declared.disk.Disk
use Rattle.px_ports.specs.declared.moment.Moment.{Moment}
use Rattle.px_script.specs.Follows.{Follows, AreStalled, IsNextPost}
use Rattle.px_script.specs.declared.crew_end.CrewEnd.{CrewEnd}
use Rattle.px_script.specs.declared.crew_end.CrewEnd.TheVariants as crew
use Rattle.px_script.specs.declared.stall.Stall.{Stall}
use Rattle.px_script.specs.declared.todo.Todo.{Todo}
use Rattle.px_sem.specs.Log.{Log, accepted}
use Rattle.px_sem.specs.declared.stepper.Stepper
use Rattle.px_session.proofs.Sessions.{images_stand}
use Rattle.px_session.specs.Posting.{Posts, WasDue}
use Rattle.px_session.specs.Session.{Session, IsFront, LeavesFronts}
use Rattle.px_session.specs.declared.posting.Posted.{Posted}
use Rattle.px_run.specs.Course.{Due}
use Rattle.px_ending.specs.Ending.{Ending, stalled_ending, disk_fault}
use Rattle.px_run.specs.Finishing.{Finishes}
use Rattle.px_run.specs.Journaled.{DueBehind}
use Rattle.px_run.specs.Stops.{Performs, stop_of}
use Rattle.px_ending.specs.Statuses.{number_of, status_of}
use Rattle.px_run.specs.declared.finishing.Telling.{Telling}
use Rattle.px_run.specs.Telling.{told_ending}
use Rattle.px_ending.specs.declared.status.End.{End}
use Rattle.px_ending.specs.declared.refusal.Refusal.TheVariants as refusals
use Rattle.px_run.specs.declared.stop.Stop.{Stop}
use Rattle.px_run.specs.declared.stop.Stop.TheVariants as stops
use Rattle.px_run.proofs.Performing.{printed, broken_off}
use Rattle.px_run.proofs.SeenFiles.{WhereDue}

-- at the opening each image stands for the text and the history
pub opening_stands : {S D : Type 0} (members : Disk.Ghosts D) (exec : Executive S D) (text : List ℕ) (session : Session) → session.text ≡ text
    → session.first ≡ exec.opening.history → TellsBytes members exec.opening.journal.disk → IsTextOf members exec text → (image : List ℕ)
    → members.images (members.moments exec.opening.journal.disk) image → Stands image session.text session.first
opening_stands members exec text session same_text same_first tells ready image left = rw (same_text, same_first)
    (images_stand members exec.opening.journal.disk text exec.opening.history (ready_synced _ _ _ _ ready) tells (ready_stands _ _ _ _ ready) image left)

-- a disk that came to a moment of the text and the history with such images, and of which each image since then is a front
pub leaves_fronts : {D : Type 0} (members : Disk.Ghosts D) (IsEarly : List ℕ → Type 0) (session : Session) (old mid new : D)
    → LeavesOnly members.images (λ image. members.images (members.moments old) image ⊎ (IsEarly image ⊎ IsFront session image)) (members.moments old) (members.moments mid)
    → ((image : List ℕ) → members.images (members.moments mid) image → Stands image session.text session.first)
    → LeavesOnly members.images (IsFront session) (members.moments mid) (members.moments new) → LeavesFronts members IsEarly session old new
leaves_fronts members IsEarly session old mid new early stands since = record {
  each = leaves_on members.images _ (members.moments old) (members.moments mid) (members.moments new) early
      (leaves_more members.images (IsFront session) _ (members.moments mid) (members.moments new) (λ image front. inr (inr front)) since);
  opened = (
    length (members.moments mid),
    grows_length (members.moments old) (members.moments mid) early.grows,
    grows_length (members.moments mid) (members.moments new) since.grows,
    λ image left. stands image (subst (λ (ms : List Moment). members.images ms image) since.grows left),
    since.each,
  );
}

-- the text that is printed of a log that goes on from a history, by the history and the log that are shown
pub prints_session : (Text : List Entry → Log → List ℕ) (mid new : View) (shown history first : List Entry) (shown_log log : Log) (r : Result Unit PrintFault)
    → shown ≡ history → shown_log ≡ log → history ≡ first ++ accepted log
    → ((before : List Entry) → shown ≡ before ++ accepted shown_log → Prints mid [] new [] (Text before shown_log) r)
    → Prints mid [] new [] (Text first log) r
prints_session Text mid new shown history first shown_log log r entries_is log_is accepts prints =
    subst (λ (l : Log). Prints mid [] new [] (Text first l) r) log_is
    (prints first (entries_is ∙ accepts ∙ ap (λ (l : Log). first ++ accepted l) (sym log_is)))

-- what is due behind a session, since a disk with no more faults
pub due_behind_since : {D : Type 0} (members : Disk.Ghosts D) (telling : Telling) (plan : List Site) (left : List Todo) (session : Session) (old opened new : D) (due : Due)
    → members.faults old ≤ members.faults opened → DueBehind members telling plan left session opened new due → DueBehind members telling plan left session old new due
due_behind_since members telling plan left session old opened new _ later (DueBehind.whole none all) = DueBehind.whole none all
due_behind_since members telling plan left session old opened new _ later (DueBehind.stalled stalls none stalled) = DueBehind.stalled stalls none stalled
due_behind_since members telling plan left session old opened new _ later (DueBehind.failed some rose) = DueBehind.failed some (omega (arith, later, rose))
due_behind_since members telling plan left session old opened new _ later (DueBehind.no_memory none) = DueBehind.no_memory none

-- what holds of what is told, of the stalls and of a fault holds of each ending that is due behind a session
pub where_behind : {D : Type 0} (members : Disk.Ghosts D) (telling : Telling) (plan : List Site) (left : List Todo) (session : Session) (old new : D)
    (Expected : Ending → Type 0) (due : Due) → Expected (told_ending telling plan session.first session.log)
    → ((stalls : List Stall) → AreStalled plan session.first session.log left stalls → Expected (stalled_ending plan session.first session.log stalls))
    → (Rose (members.faults old) (members.faults new) → Expected disk_fault) → DueBehind members telling plan left session old new due → WhereDue Expected due
where_behind members telling plan left session old new Expected _ whole stalled failed (DueBehind.whole none all) = whole
where_behind members telling plan left session old new Expected _ whole stalled failed (DueBehind.stalled stalls none are) = stalled stalls are
where_behind members telling plan left session old new Expected _ whole stalled failed (DueBehind.failed some rose) = failed rose
where_behind members telling plan left session old new Expected _ whole stalled failed (DueBehind.no_memory none) = tt

-- a text that breaks off is no refusal
pub breaks_otherwise : (fault : PrintFault) → ¬ IsErrOf {T = End} (Err (stop_of fault)) (stops.Refused refusals.DiskFault)
breaks_otherwise faults.SinkFailed same = absurd (cc)
breaks_otherwise faults.NoMemory same = absurd (cc)

-- ---- what the work of the threads has come to

module _ (plan : List Site) (first : List Entry) (log : Log) where
  follows_of : (threads : List Todo) (failed : Option Entry) (end : CrewEnd) → Ends plan first log threads failed end → Follows plan first log threads
  follows_of threads failed crew.Done (none, all) = record { each = λ k d within. (_, all.each k d within); only = all.only }
  follows_of threads failed (crew.Stalled waits) (none, stalled) = stalled.follows
  follows_of threads failed crew.Disk (entry, is, follows, next) = follows
  follows_of threads failed crew.NoMemory (none, follows) = follows

  next_of : (threads : List Todo) (failed : Option Entry) (end : CrewEnd) → Ends plan first log threads failed end
      → IfSome failed (IsNextPost plan first log threads)
  next_of threads failed crew.Done (none, all) = rw none tt
  next_of threads failed (crew.Stalled waits) (none, stalled) = rw none tt
  next_of threads failed crew.Disk (entry, is, follows, next) = rw is next
  next_of threads failed crew.NoMemory (none, follows) = rw none tt

module _ {S D : Type 0} (runs : Stepper.Ghosts S) (members : Disk.Ghosts D) (telling : Telling) (plan : List Site) (text : List ℕ) (exec : Executive S D) (threads : List Todo)
    (posted : Posted S D) (p : Posts members runs exec threads posted) (is : IsTextOf members exec text) (nodes : plan_of runs exec ≡ plan) (before now : View) where
  abbrev session : Session
  session = record { text = text; first = exec.opening.history; log = posted.log.items; failed = p.failed }

  abbrev Calls : Due → Type 0
  Calls = DueBehind members telling (plan_of runs exec) threads session exec.opening.journal.disk posted.disk

  abbrev EndsBy : CrewEnd → Type 0
  EndsBy = Ends (plan_of runs exec) exec.opening.history posted.log.items threads p.failed

  -- an ending is due, and no append has failed
  abbrev pub IsDue : Ending → Type 0
  IsDue ending = (p.failed ≡ None) × Calls (Some ending)

  goes_right : (result : Result End Stop) → p.failed ≡ None → ¬ IsErrOf result (stops.Refused refusals.DiskFault)
      → Goes members (IsErrOf result (stops.Refused refusals.DiskFault)) exec.opening.journal.disk posted.disk
  goes_right result none other =
      goes_told members p.goes (λ some. absurd (let no = subst IsSome none some in cc)) (λ same. absurd (other same))

  finished : (result : Result End Stop) → Goes members (IsErrOf result (stops.Refused refusals.DiskFault)) exec.opening.journal.disk posted.disk
      → Performs before now Calls result → Finishes members runs telling text exec threads before now (record { result = result; disk = posted.disk })
  finished result goes performs = record {
    session = session;
    is_session = record {
      same_text = refl;
      same_first = refl;
      legal = p.legal;
      follows = follows_of (plan_of runs exec) exec.opening.history posted.log.items threads p.failed posted.end p.ends;
      due = subst (λ (h : List Entry). WasDue (plan_of runs exec) exec.opening.limit h p.failed) p.history p.due;
      next = next_of (plan_of runs exec) exec.opening.history posted.log.items threads p.failed posted.end p.ends;
    };
    performs = performs;
    leaves = λ tells. p.disk tells text is;
    names = λ tells found was. p.names tells text found was;
    goes = goes;
  }

  pub due_whole : posted.end ≡ crew.Done → IsDue (told_ending telling plan exec.opening.history posted.log.items)
  due_whole done =
      let ends = subst EndsBy done p.ends in
      (ends.0, subst (λ (sites : List Site). Calls (Some (told_ending telling sites exec.opening.history posted.log.items))) nodes (DueBehind.whole ends.0 ends.1))

  pub due_stalled : (stalls : List Stall) → (none : p.failed ≡ None)
      → AreStalled (plan_of runs exec) exec.opening.history posted.log.items threads stalls
      → IsDue (stalled_ending plan exec.opening.history posted.log.items stalls)
  due_stalled stalls none stalled =
      (none, subst (λ (sites : List Site). Calls (Some (stalled_ending sites exec.opening.history posted.log.items stalls))) nodes (DueBehind.stalled stalls none stalled))

  pub finished_printed : (end : End) (ending : Ending) → IsDue ending → ending.status ≡ number_of (status_of end)
      → Prints {T = Unit} before [] now [] ending.text (Ok tt)
      → Finishes members runs telling text exec threads before now (record { result = Ok end; disk = posted.disk })
  finished_printed end ending due status prints =
      finished (Ok end) (goes_right (Ok end) due.0 (λ same. absurd (cc))) (printed before now Calls end ending due.1 status prints)

  pub finished_broken_off : (ending : Ending) (fault : PrintFault) → IsDue ending → Prints {T = Unit} before [] now [] ending.text (Err fault)
      → Finishes members runs telling text exec threads before now (record { result = Err (stop_of fault); disk = posted.disk })
  finished_broken_off ending fault due prints =
      finished (Err (stop_of fault)) (goes_right (Err (stop_of fault)) due.0 (breaks_otherwise fault))
      (broken_off before now Calls ending fault (Err (stop_of fault)) due.1 refl prints)

  pub finished_failed : posted.end ≡ crew.Disk → now.emitted ≡ before.emitted
      → Finishes members runs telling text exec threads before now (record { result = Err (stops.Refused refusals.DiskFault); disk = posted.disk })
  finished_failed fails same =
      let (entry, is, follows, next) = subst EndsBy fails p.ends in
      let some : IsSome p.failed = rw is refl in
      finished (Err (stops.Refused refusals.DiskFault)) (goes_told members p.goes (λ so. refl) (λ so. some)) (DueBehind.failed some (p.goes.faults.rose some), same)

  pub finished_early : posted.end ≡ crew.NoMemory → now.emitted ≡ before.emitted
      → Finishes members runs telling text exec threads before now (record { result = Err stops.NoMemory; disk = posted.disk })
  finished_early runs_out same =
      let ends = subst EndsBy runs_out p.ends in
      finished (Err stops.NoMemory) (goes_right (Err stops.NoMemory) ends.0 (λ same. absurd (cc))) (inr (DueBehind.no_memory ends.0, same))

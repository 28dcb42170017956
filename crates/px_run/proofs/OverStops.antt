-- A script's lines are posted at most once, whatever stops there were.
use Rattle.std.proofs.Common.{◌≡◌, inl, inr, ⊎_elim, ℕ, List, [], ◌++◌, Option, Some, None, IfSome, IsTrue, refl, sym, arith, ap, subst, append-nil}
use Rattle.std.specs.Option.{option_and_then}
use Rattle.px_core.specs.Plan.{Site, Tree, sites}
use Rattle.px_event.specs.declared.entry.Entry.{Entry}
use Rattle.px_value.proofs.General.{told_of}
use Rattle.px_exec.specs.Executive.{TellsBytes}
use Rattle.px_journal.proofs.Meaning.{one_meaning_history}
use Rattle.px_journal.proofs.Moments.{left_before}
use Rattle.px_journal.specs.Journal.{IsUnwritten}
use Rattle.px_journal.specs.Layout.{is_nothing, entries}
use Rattle.px_output.specs.View.{View}
use Rattle.px_ports.specs.declared.disk.Disk
use Rattle.px_script.proofs.Sounds.{sound_front, sound_follows, sound_next}
use Rattle.px_script.specs.Fit.{IsFitScript}
use Rattle.px_script.specs.Follows.{IsNextPost}
use Rattle.px_script.specs.Remainder.{rest}
use Rattle.px_script.specs.Soak.{soak_threads}
use Rattle.px_script.specs.Sound.{IsSoundFor}
use Rattle.px_script.specs.declared.script.Script.{Script}
use Rattle.px_script.specs.declared.todo.Todo.{Todo}
use Rattle.px_sem.specs.Log.{accepted}
use Rattle.px_sem.specs.Run.{started}
use Rattle.px_sem.specs.World.{World}
use Rattle.px_session.proofs.Closed.{ReadsAreLeft}
use Rattle.px_session.proofs.Sessions.{untouched_at_once}
use Rattle.px_session.specs.Creating.{LeavesNew}
use Rattle.px_session.specs.Session.{Session, unsure, longest_of, IsFront, LeavesFronts, StandsFor}
use Rattle.px_words.specs.Words.{Command, TraceStart, DryRun, Check, Format, Run, Resume, Trace, Names, Soak, script_operand, command}
use Rattle.px_run.proofs.Excluding.{stands_something}
use Rattle.px_run.specs.Course.{Course, Untouched, TakenUp, Due, EndsIn, AfterFile, Leaves}
use Rattle.px_ending.specs.Ending.{Ending}
use Rattle.px_run.specs.Reading.{FileKind, Reads, with_text}
use Rattle.px_run.specs.Headline.{CommandCallsFor, Headline}
use Rattle.px_run.specs.Journaled.{IsSession, NewCalls, RunCalls, RunCallsBy, AfterJournal, ResumeCalls, TraceCalls, NamesCalls}
use Rattle.px_run.specs.Kinds.{plan_file, script_file}
use Rattle.px_run.specs.Soak.{soak_lines, SoakCalls}
use Rattle.px_run.specs.declared.finishing.Telling.{Telling}
use Rattle.px_run.specs.OverStops.{IsSoundImage, ReadsOnly, AreSoundNow, AreSoundSince, AfterCalls}

-- ---- the histories of a session

sound_empty : (threads : List Todo) → IsSoundFor threads []
sound_empty threads = record { posts = λ k d within. absurd (omega (arith, within)); rises = λ thread. refl }

module _ (script : Script) (fit : IsFitScript script) where
  -- the longest history of a session over one that is sound
  longest_sound : (plan : List Site) (text : List ℕ) (first : List Entry) (limit : ℕ) (session : Session) → IsSoundFor script.threads first
      → IsSession plan text first limit (rest script.threads first) session → IsSoundFor script.threads (longest_of session)
  longest_sound plan text first limit session before so =
      subst (λ h. IsSoundFor script.threads ((h ++ accepted session.log) ++ unsure session.failed)) (sym so.same_first) (with_unsure session.failed so.next)
    where
      with_unsure : (failed : Option Entry) → IfSome failed (IsNextPost plan first session.log (rest script.threads first))
          → IsSoundFor script.threads ((first ++ accepted session.log) ++ unsure failed)
      with_unsure None next = subst (IsSoundFor script.threads) (sym (append-nil (first ++ accepted session.log))) (sound_follows script fit plan first session.log before so.follows)
      with_unsure (Some entry) next = sound_next script fit plan first session.log entry before so.follows next

  -- each front of it
  front_sound : (session : Session) (image : List ℕ) → IsSoundFor script.threads (longest_of session) → IsFront session image → IsSoundImage script.threads image
  front_sound session image longest front = inr (
    session.text,
    session.first ++ front.more,
    front.stands,
    sound_front script.threads (session.first ++ front.more) front.rest (subst (IsSoundFor script.threads) front.front longest),
  )

-- ---- the images of a call

module _ {D : Type 0} (members : Disk.Ghosts D) (read_left : ReadsAreLeft members) (script : Script) (fit : IsFitScript script) (old new : D)
    (tells : TellsBytes members old) (was : AreSoundNow members script.threads old) where
  abbrev AreSound : Type 0
  AreSound = AreSoundSince members script.threads old new

  told : (bytes : List ℕ) × (members.content old ≡ Some bytes)
  told = told_of (members.content old) tells

  unwritten : IsUnwritten members old new → AreSound
  unwritten none image since = was image (left_before members.images (members.moments old) (members.moments new) none.elapses image since)

  still : new ≡ old → AreSound
  still same = unwritten (subst (IsUnwritten members old) (sym same) (untouched_at_once members old).unwritten)

  fronts : (IsEarly : List ℕ → Type 0) (session : Session) → ((image : List ℕ) → IsEarly image → IsTrue (is_nothing image))
      → IsSoundFor script.threads (longest_of session) → LeavesFronts members IsEarly session old new → AreSound
  fronts IsEarly session early longest leaves image since = ⊎_elim
      (was image)
      (λ other. ⊎_elim (λ is. inl (early image is)) (front_sound script fit session image longest) other)
      ((leaves.each).each image since)

  made_new : (text : List ℕ) → LeavesNew members text old new → AreSound
  made_new text leaves image since = ⊎_elim
      (was image)
      (λ other. ⊎_elim (λ nothing. inl nothing) (λ stands. inr (text, [], stands, sound_empty script.threads)) other)
      ((leaves.each told.0 told.1).each image since)

  -- what a read of the disk stood for at the start
  first_sound : (text : List ℕ) (first : List Entry) → StandsFor members old text first → IsSoundFor script.threads first
  first_sound text first stands = by (was told.0 (read_left old told.0 told.1))
    where
      by : IsSoundImage script.threads told.0 → IsSoundFor script.threads first
      by (inl nothing) = absurd (stands_something told.0 text first (stands told.0 told.1) nothing)
      by (inr (other, history, so, is)) =
          subst (IsSoundFor script.threads) (one_meaning_history told.0 other text history first so (stands told.0 told.1)) is

  -- ---- whatever the course

  abbrev LeavesSound : Course → Type 0
  LeavesSound course = Leaves members old new course → AreSound

  untouched_sound : LeavesSound Untouched
  untouched_sound leaves = unwritten leaves.unwritten

  taken_up_sound : (text : List ℕ) (first : List Entry) → LeavesSound (TakenUp text first)
  taken_up_sound text first leaves = unwritten (leaves.0).unwritten

  ended_sound : (so_far : Course) (ending : Ending) (course : Course) (due : Due) → LeavesSound so_far → EndsIn so_far ending course due → LeavesSound course
  ended_sound so_far ending course due here (same, is) leaves = here (subst (λ (c : Course). Leaves members old new c) same leaves)

  new_sound : (telling : Telling) (plan : List Site) (text : List ℕ) (limit : ℕ) (spelled : Script) (course : Course) (due : Due) → spelled.threads ≡ script.threads
      → NewCalls members telling plan text limit spelled old new course due → LeavesSound course
  new_sound telling plan text limit spelled _ _ same (NewCalls.exists something) = untouched_sound
  new_sound telling plan text limit spelled _ _ same (NewCalls.half_made rose) = λ leaves. made_new text (leaves.0)
  new_sound telling plan text limit spelled _ _ same (NewCalls.made session due nothing (so, behind)) =
      λ leaves. fronts (λ image. IsTrue (is_nothing image)) session (λ image is. is)
      (longest_sound script fit plan text [] limit session (sound_empty script.threads) (subst (λ (t : List Todo). IsSession plan text [] limit (rest t []) session) same so))
      (leaves.1)
  new_sound telling plan text limit spelled _ _ same NewCalls.no_memory = untouched_sound

  run_sound : (telling : Telling) (plan : List Site) (text : List ℕ) (limit : ℕ) (spelled : Script) (course : Course) (due : Due) (found : Option (World × ℕ))
      → spelled.threads ≡ script.threads → RunCallsBy members telling plan text limit spelled old new course due found → LeavesSound course
  run_sound telling plan text limit spelled course due None same ends = ended_sound Untouched _ course due untouched_sound ends
  run_sound telling plan text limit spelled course due (Some settled) same calls = new_sound telling plan text limit spelled course due same calls

  soak_sound : (count seed : ℕ) (course : Course) (due : Due) → soak_threads count seed ≡ script.threads → SoakCalls members count seed old new course due
      → LeavesSound course
  soak_sound count seed _ _ same (SoakCalls.starts tree course due compiled calls) =
      run_sound _ (sites tree) _ _ (soak_lines count seed) course due (started (sites tree)) same calls
  soak_sound count seed _ _ same SoakCalls.no_memory = untouched_sound

  goes_on_sound : (plan : List Site) (text : List ℕ) (first : List Entry) (limit : ℕ) (threads : List Todo) (session : Session)
      → threads ≡ script.threads → StandsFor members old text first → IsSession plan text first limit (rest threads first) session
      → LeavesFronts members (λ image. ⊥) session old new → AreSound
  goes_on_sound plan text first limit threads session same stands so =
      fronts (λ image. ⊥) session (λ image none. absurd none)
      (longest_sound script fit plan text first limit session (first_sound text first stands)
      (subst (λ (t : List Todo). IsSession plan text first limit (rest t first) session) same so))

  after_journal : (Next : List ℕ → List Entry → Tree → Course → Due → Type 0) (course : Course) (due : Due)
      → ((text : List ℕ) (first : List Entry) (tree : Tree) → StandsFor members old text first → Next text first tree course due → LeavesSound course)
      → AfterJournal members old new Next course due → LeavesSound course
  after_journal Next _ _ behind (AfterJournal.not_read same) = untouched_sound
  after_journal Next _ _ behind AfterJournal.no_memory = λ leaves. unwritten (leaves.0).unwritten
  after_journal Next _ _ behind (AfterJournal.disk_fails rose) = unwritten
  after_journal Next _ _ behind (AfterJournal.no_journal_there ending none) = λ leaves. unwritten (leaves.0).unwritten
  after_journal Next _ _ behind (AfterJournal.not_run text first ending stands cannot) = taken_up_sound text first
  after_journal Next _ _ behind (AfterJournal.opened text first tree course due stands compiled runs next) = behind text first tree stands next

  trace_sound : (course : Course) (due : Due) → TraceCalls members old new course due → LeavesSound course
  trace_sound course due calls =
      after_journal _ course due (λ text first tree stands ends. ended_sound (TakenUp text first) _ course due (taken_up_sound text first) ends) calls

  names_sound : (course : Course) (due : Due) → NamesCalls members old new course due → LeavesSound course
  names_sound _ _ (NamesCalls.not_read same) = untouched_sound
  names_sound _ _ NamesCalls.no_memory = λ leaves. unwritten (leaves.0).unwritten
  names_sound _ _ (NamesCalls.disk_fails rose) = unwritten
  names_sound _ _ (NamesCalls.no_journal_there ending none) = λ leaves. unwritten (leaves.0).unwritten
  names_sound _ _ (NamesCalls.named text found here) = taken_up_sound text (entries found)

  -- ---- whatever the command

  module _ (words : List (List ℕ)) (before now : View) (only : ReadsOnly words before now script.threads) where
    after_file : (A : Type 0) (kind : FileKind A) (name : List ℕ) (so_far : Course) (Next : A → Course → Due → Type 0) (course : Course) (due : Due)
        → LeavesSound so_far → ((part : A) → Reads kind before now name part → Next part course due → LeavesSound course)
        → AfterFile kind before now name so_far Next course due → LeavesSound course
    after_file A kind name so_far Next _ _ here behind AfterFile.no_memory = here
    after_file A kind name so_far Next _ _ here behind (AfterFile.refused seen ending shows refuses) = here
    after_file A kind name so_far Next _ _ here behind (AfterFile.read seen part course due shows spells next) = behind part (seen, shows, spells) next

    run_is_sound : (plan name : List ℕ) (limit : ℕ) (course : Course) (due : Due) → option_and_then script_operand (command words) ≡ Some name
        → RunCalls members plan name limit before now old new course due → LeavesSound course
    run_is_sound plan name limit course due asks calls =
        after_file (List ℕ × Tree) (with_text plan_file) plan Untouched _ course due untouched_sound
        (λ source reads next. after_file Script (script_file (sites source.1)) name Untouched _ course due untouched_sound
        (λ spelled read by. run_sound _ (sites source.1) source.0 limit spelled course due (started (sites source.1)) (only.0 name asks (sites source.1) spelled read) by)
        next) calls

    resume_is_sound : (name : List ℕ) (limit : ℕ) (course : Course) (due : Due) → option_and_then script_operand (command words) ≡ Some name
        → ResumeCalls members name limit before now old new course due → LeavesSound course
    resume_is_sound name limit course due asks calls =
        after_journal _ course due
        (λ text first tree stands next. after_file Script (script_file (sites tree)) name (TakenUp text first) _ course due (taken_up_sound text first)
        (λ spelled read (session, naming, is, found, (so, behind)) leaves.
        goes_on_sound (sites tree) text first limit spelled.threads session (only.0 name asks (sites tree) spelled read) stands so
        ((subst (λ (c : Course). Leaves members old new c) is leaves).1)) next) calls

    calls_sound : (asked : Option Command) (course : Course) (due : Due) → command words ≡ asked → CommandCallsFor members asked before now old new course due
        → LeavesSound course
    calls_sound None course due asks (same, calls) = λ leaves. still same
    calls_sound (Some (TraceStart plan)) course due asks (same, calls) = λ leaves. still same
    calls_sound (Some (DryRun plan name)) course due asks (same, calls) = λ leaves. still same
    calls_sound (Some (Check plan)) course due asks (same, calls) = λ leaves. still same
    calls_sound (Some (Format plan)) course due asks (same, calls) = λ leaves. still same
    calls_sound (Some (Run plan name journal limit)) course due asks calls = run_is_sound plan name limit course due (ap (option_and_then script_operand) asks) calls
    calls_sound (Some (Resume name journal limit)) course due asks calls = resume_is_sound name limit course due (ap (option_and_then script_operand) asks) calls
    calls_sound (Some (Trace journal)) course due asks calls = trace_sound course due calls
    calls_sound (Some (Names journal)) course due asks calls = names_sound course due calls
    calls_sound (Some (Soak count seed journal)) course due asks calls = soak_sound count seed course due (only.1 count seed journal asks) calls

    pub once : (status : ℕ) → Headline members words before now old new status → AreSound
    once _ (Headline.delivered course ending status calls leaves delivers) = calls_sound (command words) course (Some ending) refl calls (leaves tells)
    once _ (Headline.nothing_emitted course calls leaves same) = calls_sound (command words) course None refl calls (leaves tells)

-- ---- calls one after another

pub once_after : {D : Type 0} (members : Disk.Ghosts D) → ReadsAreLeft members → (script : Script) → IsFitScript script → (disk : D)
    → AfterCalls members script.threads disk → AreSoundNow members script.threads disk
once_after members read_left script fit _ (AfterCalls.none disk nothing) image is = inl (nothing image is)
once_after members read_left script fit _ (AfterCalls.one_more words before now old new next status earlier tells only headline left) image is =
    once members read_left script fit old new tells (once_after members read_left script fit old earlier) words before now only status headline image (left image is)

-- A journal that is taken up: what a command has come to then.
use Rattle.std.proofs.Common.{◌≡◌, ◌≢◌, ◌≤◌, inl, inr, ℕ, List, [], Some, Result, Ok, Err, refl, sym, ◌∙◌, ap, subst, arith}
use Rattle.std.specs.Prelude.{is_some}
use Rattle.px_core.specs.Plan.{Site, Tree, tree_of, sites}
use Rattle.px_event.specs.declared.entry.Entry.{Entry}
use Rattle.px_exec.proofs.Images.{leaves_now}
use Rattle.px_exec.specs.Executive.{plan_of, IsTextOf, TellsBytes}
use Rattle.px_exec.specs.Opening.{GivesNames}
use Rattle.px_journal.specs.Crash.{LeavesOnly}
use Rattle.px_journal.specs.Journal.{IsSynced, IsUntouched}
use Rattle.px_journal.specs.Layout.{Stands}
use Rattle.px_journal.proofs.Moments.{left_before}
use Rattle.px_journal.proofs.Ready.{ready_stands, ready_synced}
use Rattle.px_output.specs.View.{View, OnlyReads}
use Rattle.px_ports.specs.Moment.{Elapses, Stays}
use Rattle.px_ports.specs.declared.disk.Disk
use Rattle.px_script.specs.Remainder.{rest}
use Rattle.px_script.specs.declared.script.Script.{Script}
use Rattle.px_script.specs.declared.todo.Todo.{Todo}
use Rattle.px_sem.specs.declared.stepper.Stepper
use Rattle.px_session.specs.Reopening.{Reopens, IsNotReopened, IsReopenWhy}
use Rattle.px_session.specs.Session.{Session, unposted, IsFront, LeavesFronts, StandsFor}
use Rattle.px_session.specs.declared.fault.ReopenFault.{ReopenFault}
use Rattle.px_session.specs.declared.fault.ReopenWhy.{ReopenWhy}
use Rattle.px_session.specs.declared.fault.ReopenWhy.TheVariants as reopening
use Rattle.px_session.specs.declared.reopening.Reopened.{Reopened}
use Rattle.px_run.specs.Course.{Course, Synced, Unread, TakenUp, GoneOn, Due, AfterFile, Leaves}
use Rattle.px_ending.specs.Ending.{Ending, session_ending, runaway_at_start, no_journal, journal_damaged, journal_plan, journal_runaway}
use Rattle.px_run.specs.Finishing.{ComesBack, Carries, Finishes}
use Rattle.px_run.specs.Resume.{IsLeft, ResumeCarries}
use Rattle.px_run.specs.Trace.{TraceCarries}
use Rattle.px_run.specs.Journaled.{IsSession, DueBehind, HasNoJournal, CannotRun, AfterJournal, ResumeCalls, TraceCalls}
use Rattle.px_run.specs.Kinds.{script_file}
use Rattle.px_run.specs.Naming.{Naming}
use Rattle.px_run.specs.Stops.{Performs, StopsReading, stop_of, stop_of_reopen}
use Rattle.px_ending.specs.declared.status.End.{End}
use Rattle.px_ending.specs.declared.status.End.TheVariants as ends
use Rattle.px_run.specs.declared.stop.Stop.{Stop}
use Rattle.px_run.specs.declared.finishing.Carried.{Carried}
use Rattle.px_run.specs.declared.finishing.Telling.TheVariants as tellings
use Rattle.px_output.specs.Printing.{Prints}
use Rattle.px_output.specs.declared.printer.PrintFault.{PrintFault}
use Rattle.px_session.proofs.Sessions.{first_front, images_stand, one_history}
use Rattle.px_run.proofs.Finished.{due_behind_since, leaves_fronts, opening_stands}
use Rattle.px_run.proofs.Named.{leaves_names}
use Rattle.px_run.proofs.Performing.{performs_since, performs_more, reading_stopped, printed, broken_off}
use Rattle.px_run.proofs.SeenFiles.{shows_later}

-- ---- what is left of a disk to which nothing was written

-- each image since is one of the start, or stands for a front of the session's history
pub fronts_since : {D : Type 0} (members : Disk.Ghosts D) (session : Session) (old opened new : D) → IsUntouched members old opened
    → ((image : List ℕ) → members.images (members.moments opened) image → Stands image session.text session.first)
    → LeavesOnly members.images (IsFront session) (members.moments opened) (members.moments new)
    → LeavesFronts members (λ image. ⊥) session old new
fronts_since members session old opened new untouched stands since =
    leaves_fronts members (λ image. ⊥) session old opened new
    (record {
      grows = ((untouched.unwritten).elapses).grows;
      each = λ image early. inl (left_before members.images (members.moments old) (members.moments opened) (untouched.unwritten).elapses image early);
    })
    stands since

-- a journal of this text and history was read, and no more
left_taken_up : {D : Type 0} (members : Disk.Ghosts D) (text : List ℕ) (first : List Entry) (old new : D) → IsUntouched members old new
    → TellsBytes members old → IsSynced members new → StandsFor members new text first
    → Leaves members old new (TakenUp text first)
left_taken_up members text first old new untouched tells synced stands =
    let stands_now = images_stand members new text first synced (ap is_some untouched.content ∙ tells) stands in (
      untouched,
      one_history members new text first synced stands,
      fronts_since members (unposted text first) old new new untouched stands_now
          (leaves_now members.images (members.moments new) (IsFront (unposted text first)) (λ image left. first_front (unposted text first) image (stands_now image left))),
    )

-- a command that has read such a journal, and hands the disk back as it was read
pub carries_taken_up : {D : Type 0} (members : Disk.Ghosts D) (journal : List ℕ) (Calls : D → Course → Due → Type 0) (text : List ℕ) (first : List Entry)
    (before now : View) (old read disk : D) (result : Result End Stop) → IsUntouched members old read → IsSynced members read → StandsFor members read text first
    → members.bound_to read ≡ Some journal → members.faults read ≡ members.faults old → disk ≡ read
    → Performs before now (Calls disk (TakenUp text first)) result → Carries members journal Calls before now old (record { result = result; disk = disk })
carries_taken_up {D} members journal Calls text first before now old read disk result untouched synced stands bound faults here performs = record {
  course = TakenUp text first;
  performs = performs;
  leaves = λ tells. subst (λ (d : D). Leaves members old d (TakenUp text first)) (sym here)
      (left_taken_up members text first old read untouched tells synced stands);
  bound = inl (ap members.bound_to here ∙ bound);
  back = record {
    tells = ap (λ (d : D). is_some (members.content d)) here ∙ ap is_some untouched.content;
    kept = λ other. ap members.faults here ∙ faults;
  };
}

-- ---- a journal that is not taken up

module _ {D : Type 0} (members : Disk.Ghosts D) (journal : List ℕ) (Next : D → List ℕ → List Entry → Tree → Course → Due → Type 0) (view : View) (old : D) where
  abbrev Calls : D → Course → Due → Type 0
  Calls new course due = AfterJournal members old new (Next new) course due

  pub not_taken_up : (fault : ReopenFault D) → IsNotReopened members journal old fault
      → Carries members journal Calls view view old (record { result = Err (stop_of_reopen fault.why); disk = fault.disk })
  not_taken_up fault refused = by fault.why refl refused.why
    where
      back : ComesBack members old (record { result = Err (stop_of_reopen fault.why); disk = fault.disk })
      back = record {
        tells = refused.tells;
        kept = λ other. refused.faults.kept (λ is. other (ap (λ why. let r : Result End Stop = Err (stop_of_reopen why) in r) is));
      }

      still : fault.why ≢ reopening.DiskFault → IsUntouched members old fault.disk
      still other = record { content = refused.same other; unwritten = refused.unwritten }

      refused_as : (why : ReopenWhy) → fault.why ≡ why → why ≢ reopening.DiskFault → Performs view view (Calls fault.disk Synced) (Err (stop_of_reopen why))
          → Carries members journal Calls view view old (record { result = Err (stop_of_reopen fault.why); disk = fault.disk })
      refused_as why is other performs = record {
        course = Synced;
        performs = subst (λ (w : ReopenWhy). Performs view view (Calls fault.disk Synced) (Err (stop_of_reopen w))) (sym is) performs;
        leaves = λ tells. (still (λ e. other (sym is ∙ e)), refused.synced (λ e. other (sym is ∙ e)));
        bound = refused.bound;
        back = back;
      }

      -- the journal was read, and its plan or its history can't be run
      not_run_as : (why : ReopenWhy) → fault.why ≡ why → why ≢ reopening.DiskFault → (text : List ℕ) (first : List Entry)
          → StandsFor members old text first → Performs view view (Calls fault.disk (TakenUp text first)) (Err (stop_of_reopen why))
          → Carries members journal Calls view view old (record { result = Err (stop_of_reopen fault.why); disk = fault.disk })
      not_run_as why is other text first stands performs = record {
        course = TakenUp text first;
        performs = subst (λ (w : ReopenWhy). Performs view view (Calls fault.disk (TakenUp text first)) (Err (stop_of_reopen w))) (sym is) performs;
        leaves = λ tells.
            left_taken_up members text first old fault.disk (still (λ e. other (sym is ∙ e))) tells (refused.synced (λ e. other (sym is ∙ e)))
            (λ told here. stands told (sym (refused.same (λ e. other (sym is ∙ e))) ∙ here));
        bound = refused.bound;
        back = back;
      }

      by : (why : ReopenWhy) → fault.why ≡ why → IsReopenWhy members old fault.disk fault.why
          → Carries members journal Calls view view old (record { result = Err (stop_of_reopen fault.why); disk = fault.disk })
      by reopening.NoJournal is cause = refused_as reopening.NoJournal is (λ e. cc)
          (AfterJournal.no_journal_there no_journal (HasNoJournal.nothing (subst (IsReopenWhy members old fault.disk) is cause)), refl)
      by (reopening.Damaged at) is cause = refused_as (reopening.Damaged at) is (λ e. cc)
          (AfterJournal.no_journal_there (journal_damaged at) (HasNoJournal.damaged at (subst (IsReopenWhy members old fault.disk) is cause)), refl)
      by reopening.PlanRefused is cause =
          let c = subst (IsReopenWhy members old fault.disk) is cause in
          not_run_as reopening.PlanRefused is (λ e. cc) (c.0) (c.1) (c.2)
          (AfterJournal.not_run (c.0) (c.1) journal_plan (c.2) (CannotRun.no_plan (c.3.0) (c.3.1) (c.3.2)), refl)
      by reopening.RunawayAtStart is cause =
          let c = subst (IsReopenWhy members old fault.disk) is cause in
          not_run_as reopening.RunawayAtStart is (λ e. cc) (c.0) (c.1) (c.2)
          (AfterJournal.not_run (c.0) (c.1) runaway_at_start (c.2) (CannotRun.start_runs_away (c.3.0) (c.3.1) (c.3.2)), refl)
      by (reopening.Runaway at) is cause =
          let c = subst (IsReopenWhy members old fault.disk) is cause in
          not_run_as (reopening.Runaway at) is (λ e. cc) (c.0) (c.1) (c.2)
          (AfterJournal.not_run (c.0) (c.1) (journal_runaway at) (c.2) (CannotRun.event_runs_away (c.3.0) at (c.3.1) (c.3.2)), refl)
      by reopening.NoMemory is cause = refused_as reopening.NoMemory is (λ e. cc) (inr (AfterJournal.no_memory, refl))
      by reopening.DiskFault is cause = record {
        course = Unread;
        performs = subst (λ (w : ReopenWhy). Performs view view (Calls fault.disk Unread) (Err (stop_of_reopen w))) (sym is)
            (AfterJournal.disk_fails (subst (IsReopenWhy members old fault.disk) is cause), refl);
        leaves = λ tells. refused.unwritten;
        bound = refused.bound;
        back = back;
      }

-- ---- a journal that is taken up

module _ {S D : Type 0} (runs : Stepper.Ghosts S) (members : Disk.Ghosts D) (script journal : List ℕ) (limit : ℕ) (old : D) (reopened : Reopened S D)
    (r : Reopens members runs journal limit old reopened) (before mid now : View) (only : OnlyReads before mid) where
  abbrev tree : Tree
  tree = tree_of reopened.plan

  abbrev taken_up : Course
  taken_up = TakenUp r.text reopened.exec.opening.history

  -- the script is refused, or can't be read
  pub resume_refused : (stop : Stop) (disk : D) → disk ≡ reopened.exec.opening.journal.disk → StopsReading (script_file (sites tree)) before mid script stop
      → ResumeCarries members script journal limit before mid old (record { result = Err stop; disk = disk })
  resume_refused stop disk here stopped =
      carries_taken_up members journal (λ (new : D). ResumeCalls members script limit before mid old new) r.text reopened.exec.opening.history before mid old
      reopened.exec.opening.journal.disk disk (Err stop) r.untouched (ready_synced _ _ _ _ r.ready) (ready_stands _ _ _ _ r.ready) r.bound r.faults here
      (performs_more before mid (AfterFile (script_file (sites tree)) before mid script taken_up _ taken_up)
      (ResumeCalls members script limit before mid old disk taken_up) (Err stop)
      (λ due after. AfterJournal.opened r.text reopened.exec.opening.history tree taken_up due r.stands r.compiled r.settles after)
      (reading_stopped Script (script_file (sites tree)) before mid script taken_up _ stop (Err stop) refl stopped only))

  -- it is read, and a session goes on with what is left of it
  pub resume_finished : (history : List Entry) (script_left : Script) (carried : Carried D) → history ≡ reopened.exec.opening.history
      → IsLeft (sites tree) script history before mid script_left → GivesNames reopened.exec.opening.journal script_left.names
      → ((other : List ℕ) → mid.read_faults other ≤ now.read_faults other)
      → ((text : List ℕ) → IsTextOf members reopened.exec text → Finishes members runs tellings.Text text reopened.exec script_left.threads mid now carried)
      → ResumeCarries members script journal limit before now old carried
  resume_finished history script_left carried same left gives later finishes = record {
    course = GoneOn f.session naming;
    performs = performs_since before mid now _ (ResumeCalls members script limit before now old carried.disk (GoneOn f.session naming)) carried.result only goes_on f.performs;
    leaves = λ tells.
        let told = ap is_some (r.untouched).content ∙ tells in
        let l = f.leaves told in (
          l.now,
          fronts_since members f.session old reopened.exec.opening.journal.disk carried.disk r.untouched
              (opening_stands members reopened.exec r.text f.session (f.is_session).same_text (f.is_session).same_first told r.ready) l.since,
          leaves_names members f.session naming (λ image. ⊥) r.text old reopened.exec.opening.journal carried.disk (f.is_session).same_text refl
              (subst (GivesNames reopened.exec.opening.journal) left.names gives) elapses.grows
              (λ image early. inl (left_before members.images (members.moments old) (members.moments reopened.exec.opening.journal.disk) elapses image early))
              (f.names told r.found r.named),
        );
    bound = inl (f.goes.stays.bound ∙ r.bound);
    back = record {
      tells = f.goes.tells ∙ ap is_some (r.untouched).content;
      kept = λ other. f.goes.faults.kept other ∙ r.faults;
    };
  }
    where
      f : Finishes members runs tellings.Text r.text reopened.exec script_left.threads mid now carried
      f = finishes r.text r.ready

      naming : Naming
      naming = record { version = reopened.exec.opening.journal.version; found = r.found; names = left.spelled.names }

      elapses : Elapses members.images Stays (members.moments old) (members.moments reopened.exec.opening.journal.disk)
      elapses = (r.untouched.unwritten).elapses

      threads_left : script_left.threads ≡ rest left.spelled.threads reopened.exec.opening.history
      threads_left = left.behind ∙ ap (rest left.spelled.threads) same

      is_session : IsSession (sites tree) r.text reopened.exec.opening.history limit (rest left.spelled.threads reopened.exec.opening.history) f.session
      is_session =
          subst (λ (t : List Todo). IsSession (sites tree) r.text reopened.exec.opening.history limit t f.session) threads_left
          (subst (λ (n : ℕ). IsSession (sites tree) r.text reopened.exec.opening.history n script_left.threads f.session) (r.opening).most
          (subst (λ (p : List Site). IsSession p r.text reopened.exec.opening.history reopened.exec.opening.limit script_left.threads f.session) r.nodes f.is_session))

      goes_on : (due : Due) → DueBehind members tellings.Text (plan_of runs reopened.exec) script_left.threads f.session reopened.exec.opening.journal.disk carried.disk due
          → ResumeCalls members script limit before now old carried.disk (GoneOn f.session naming) due
      goes_on due behind =
          let (seen, shows, spells) = left.read in
          AfterJournal.opened r.text reopened.exec.opening.history tree (GoneOn f.session naming) due r.stands r.compiled r.settles
          (AfterFile.read seen left.spelled (GoneOn f.session naming) due (shows_later (script_file (sites tree)).limit before mid now script seen later shows) spells (
            f.session,
            naming,
            refl,
            record { stands = r.stands_named; entries_are = r.named.1; names_are = refl },
            (
              is_session,
              subst (λ (t : List Todo). DueBehind members tellings.Text (sites tree) t f.session old carried.disk due) threads_left
                  (subst (λ (p : List Site). DueBehind members tellings.Text p script_left.threads f.session old carried.disk due) r.nodes
                  (due_behind_since members tellings.Text (plan_of runs reopened.exec) script_left.threads f.session old reopened.exec.opening.journal.disk carried.disk due (omega (arith, r.faults)) behind)),
            ),
          ))

-- its trace is printed, or breaks off
module _ {S D : Type 0} (runs : Stepper.Ghosts S) (members : Disk.Ghosts D) (journal : List ℕ) (limit : ℕ) (old : D) (reopened : Reopened S D)
    (r : Reopens members runs journal limit old reopened) (before now : View) (disk : D) (here : disk ≡ reopened.exec.opening.journal.disk) where
  abbrev traced_ending : Ending
  traced_ending = session_ending (sites (tree_of reopened.plan)) reopened.exec.opening.history []

  abbrev traced_course : Course
  traced_course = TakenUp r.text reopened.exec.opening.history

  due_trace : TraceCalls members old disk traced_course (Some traced_ending)
  due_trace = AfterJournal.opened r.text reopened.exec.opening.history (tree_of reopened.plan) traced_course (Some traced_ending) r.stands r.compiled r.settles (refl, refl)

  traced : (result : Result End Stop) → Performs before now (TraceCalls members old disk traced_course) result
      → TraceCarries members journal before now old (record { result = result; disk = disk })
  traced result =
      carries_taken_up members journal (λ (new : D). TraceCalls members old new) r.text reopened.exec.opening.history before now old
      reopened.exec.opening.journal.disk disk result r.untouched (ready_synced _ _ _ _ r.ready) (ready_stands _ _ _ _ r.ready) r.bound r.faults here

  pub trace_printed : Prints {T = Unit} before [] now [] traced_ending.text (Ok tt) → TraceCarries members journal before now old (record { result = Ok ends.Done; disk = disk })
  trace_printed prints = traced (Ok ends.Done) (printed before now (TraceCalls members old disk traced_course) ends.Done traced_ending due_trace refl prints)

  pub trace_broken_off : (fault : PrintFault) → Prints {T = Unit} before [] now [] traced_ending.text (Err fault)
      → TraceCarries members journal before now old (record { result = Err (stop_of fault); disk = disk })
  trace_broken_off fault prints =
      traced (Err (stop_of fault)) (broken_off before now (TraceCalls members old disk traced_course) traced_ending fault (Err (stop_of fault)) due_trace refl prints)

-- What the posts of a session have come to, by what the executive keeps.
use Rattle.std.proofs.Common.{◌≡◌, inl, inr, ⊎_elim, ℕ, List, [], ◌∷◌, ◌++◌, Option, Some, None, IsSome, is_some, length, refl, sym, ◌∙◌, ap, subst, arith, append-nil, IsTrue}
use Rattle.std.specs.List.{list_all}
use Rattle.std.specs.Option.{option_map, ForSome}
use Rattle.px_value.proofs.General.{is_some_mapped, IfSome-map}
use Rattle.px_crew.specs.Crew.{failed_entry, Ends}
use Rattle.px_crew.proofs.Gathering.{unfailed as failed_none}
use Rattle.px_event.specs.Fit.{is_fit_entry}
use Rattle.px_event.specs.declared.entry.Entry.{Entry}
use Rattle.px_event.specs.declared.named.NamedEntry.{NamedEntry}
use Rattle.px_exec.specs.Executive.{Opening, Executive, Keeps, IsTextOf, TellsBytes, StandsWithin, WasNamed, moments_now, moments_then, plan_of}
use Rattle.px_exec.specs.declared.closing.Failed.{Failed}
use Rattle.px_exec.proofs.Keeping.{closed_of, open_of}
use Rattle.px_exec.proofs.Tellings.{ready_now}
use Rattle.px_journal.proofs.Going.{goes_told}
use Rattle.px_journal.proofs.Ready.{ready_few, ready_fit, ready_stands, ready_synced}
use Rattle.px_journal.proofs.Moments.{grows_length, told_since}
use Rattle.px_journal.specs.Crash.{LeavesOnly}
use Rattle.px_journal.specs.Goes.{Goes}
use Rattle.px_journal.specs.Journal.{IsReady, IsReadyAs}
use Rattle.px_journal.specs.Layout.{entries, Stands}
use Rattle.px_ports.specs.declared.disk.Disk
use Rattle.px_script.specs.declared.todo.Todo.{Todo}
use Rattle.px_sem.specs.Log.{Log, IsLegal, HasRun, accepted}
use Rattle.px_sem.specs.declared.stepper.Stepper
use Rattle.px_session.specs.Posting.{WasDue, HasNames, LeavesNames, LeavesSession, Posts}
use Rattle.px_session.specs.Session.{Session, longest_of, unsure, IsEnd}
use Rattle.px_session.specs.declared.posting.Posted.{Posted}
use Rattle.px_session.proofs.Sessions.{synced_end}

-- the session of an executive, over a text
abbrev pub session_of : {S D : Type 0} → List ℕ → Executive S D → Session
session_of text exec = record { text = text; first = exec.opening.history; log = exec.log; failed = failed_entry exec }

-- the law of disks, that what a read gives is one of the images
abbrev pub ReadsAreLeft : {D : Type 0} → Disk.Ghosts D → Type 0
ReadsAreLeft {D} members = (disk : D) → ForSome (members.content disk) (λ told. members.images (members.moments disk) told)

module _ {S D : Type 0} (runs : Stepper.Ghosts S) (members : Disk.Ghosts D) (exec : Executive S D) (keeps : Keeps runs members exec) where
  -- an executive without a failed append
  module _ (unfailed : exec.failed ≡ None) where
    no_entry : failed_entry exec ≡ None
    no_entry = ap (option_map (λ (f : Failed). f.entry)) unfailed

    -- its history is the whole of the session's
    whole : (text : List ℕ) → exec.history ≡ longest_of (session_of text exec)
    whole text = keeps.grown ∙ sym (ap (λ (f : Option Entry). (exec.opening.history ++ accepted exec.log) ++ unsure f) no_entry
        ∙ append-nil (exec.opening.history ++ accepted exec.log))

    leaves_open : TellsBytes members exec.opening.journal.disk → (text : List ℕ) → IsTextOf members exec text
        → LeavesSession members (session_of text exec) exec.opening.journal.disk exec.journal.disk
    leaves_open tells text is =
        let ready = (open_of runs members exec keeps unfailed).stands text is in
        record {
          now = synced_end members (session_of text exec) exec.journal.disk (ready_synced _ _ _ _ ready)
              (λ told here. inl (subst (Stands told text) keeps.grown (ready_stands _ _ _ _ ready told here)));
          since = subst (λ (h : List Entry). LeavesOnly members.images (StandsWithin text exec.opening.history h) (members.moments exec.opening.journal.disk) (members.moments exec.journal.disk))
              (whole text) ((open_of runs members exec keeps unfailed).since tells text is);
        }

  -- one whose append has failed
  module _ (failed : Failed) (closed : exec.failed ≡ Some failed) where
    longer : (text : List ℕ) → exec.history ++ failed.entry ∷ [] ≡ longest_of (session_of text exec)
    longer text = ap (λ h. h ++ failed.entry ∷ []) keeps.grown
        ∙ sym (ap (λ (f : Option Failed). (exec.opening.history ++ accepted exec.log) ++ unsure (option_map (λ (f : Failed). f.entry) f)) closed)

    leaves_closed : ReadsAreLeft members → TellsBytes members exec.opening.journal.disk → (text : List ℕ) → IsTextOf members exec text
        → LeavesSession members (session_of text exec) exec.opening.journal.disk exec.journal.disk
    leaves_closed law tells text is =
        let either : (image : List ℕ) → members.images (members.moments exec.journal.disk) image → IsEnd (session_of text exec) image =
        λ image left. ⊎_elim
        (λ without. inl (subst (Stands image text) keeps.grown without))
        (λ with. inr (subst (Stands image text) (longer text) with))
        ((closed_of runs members exec keeps failed closed).now tells text is image left) in
        record {
          now = record {
            read = λ told here. either told (law exec.journal.disk told here);
            left = λ told here image left. either image left;
          };
          since = subst (λ (h : List Entry). LeavesOnly members.images (StandsWithin text exec.opening.history h) (members.moments exec.opening.journal.disk) (members.moments exec.journal.disk))
              (longer text) ((closed_of runs members exec keeps failed closed).since tells text is);
        }

  pub leaves_session : ReadsAreLeft members → TellsBytes members exec.opening.journal.disk → (text : List ℕ) → IsTextOf members exec text
      → LeavesSession members (session_of text exec) exec.opening.journal.disk exec.journal.disk
  leaves_session law tells text is = by exec.failed refl
    where
      by : (f : Option Failed) → exec.failed ≡ f → LeavesSession members (session_of text exec) exec.opening.journal.disk exec.journal.disk
      by None unfailed = leaves_open unfailed tells text is
      by (Some failed) closed = leaves_closed failed closed law tells text is

  -- the names since the opening
  pub leaves_names : ReadsAreLeft members → TellsBytes members exec.opening.journal.disk → (text : List ℕ) (found : List NamedEntry)
      → WasNamed members exec text found
      → LeavesNames members text found (accepted exec.log ++ unsure (failed_entry exec)) exec.opening.journal exec.journal.disk
  leaves_names law tells text found was = record {
    read = λ told here. since.each told (told_since members.images _ told _ (grows_length _ _ keeps.goes.grows) (law exec.journal.disk told here));
    since = since;
  }
    where
      since : LeavesOnly members.images (HasNames members exec.opening.journal text found (accepted exec.log ++ unsure (failed_entry exec)))
          (moments_then members exec) (moments_now members exec)
      since = keeps.naming.since tells text found was

  -- the disk since the opening, by the entry of a failed append
  pub goes_since : Goes members (IsSome (failed_entry exec)) exec.opening.journal.disk exec.journal.disk
  goes_since = goes_told members keeps.goes (λ (some : IsSome exec.failed). sym same ∙ some) (λ (some : IsSome (failed_entry exec)). same ∙ some)
    where
      same : is_some exec.failed ≡ is_some (failed_entry exec)
      same = is_some_mapped (λ (f : Failed). f.entry) exec.failed

  -- the entry of a failed append was to be accepted
  pub due_where : WasDue (plan_of runs exec) exec.opening.limit exec.history (failed_entry exec)
  due_where = IfSome-map _ (λ (f : Failed). f.entry) exec.failed (λ failed is. (closed_of runs members exec keeps failed is).due)

-- WHAT POSTS HAVE COME TO, by what is left of the executive.
pub closes : {S D : Type 0} (runs : Stepper.Ghosts S) (members : Disk.Ghosts D) (was after : Executive S D) → ReadsAreLeft members → Keeps runs members after
    → after.opening ≡ was.opening → (threads : List Todo) (posted : Posted S D)
    → Ends (plan_of runs after) after.opening.history after.log threads (failed_entry after) posted.end
    → posted.disk ≡ after.journal.disk → posted.stepper ≡ after.stepper → posted.history.items ≡ after.history → posted.log.items ≡ after.log
    → Posts members runs was threads posted
closes {S} {D} runs members was after law keeps same threads posted ends disk_is stepper_is history_is log_is = record {
  failed = failed_entry after;
  ends = subst (λ (o : Opening S D). Ends (runs.state o.stepper).nodes o.history posted.log.items threads (failed_entry after) posted.end) same
      (subst (λ (l : Log). Ends (plan_of runs after) after.opening.history l threads (failed_entry after) posted.end) (sym log_is) ends);
  legal = subst (λ (o : Opening S D). IsLegal (runs.state o.stepper).nodes o.history o.limit posted.log.items) same
      (subst (λ (l : Log). IsLegal (plan_of runs after) after.opening.history after.opening.limit l) (sym log_is) keeps.legal);
  history = history_is ∙ keeps.grown ∙ ap (λ (o : Opening S D). o.history ++ accepted after.log) same
      ∙ ap (λ (l : Log). was.opening.history ++ accepted l) (sym log_is);
  due = subst (λ (o : Opening S D). WasDue (runs.state o.stepper).nodes o.limit posted.history.items (failed_entry after)) same
      (subst (λ (h : List Entry). WasDue (plan_of runs after) after.opening.limit h (failed_entry after)) (sym history_is)
      (due_where runs members after keeps));
  has_run = subst (λ (o : Opening S D). HasRun (runs.state o.stepper).nodes posted.history.items (runs.state posted.stepper)) same
      (subst (λ (h : List Entry). HasRun (plan_of runs after) h (runs.state posted.stepper)) (sym history_is)
      (subst (λ (s : S). HasRun (plan_of runs after) after.history (runs.state s)) (sym stepper_is) (keeps.runs_to, keeps.settled)));
  fit = λ none. subst (λ (h : List Entry). IsTrue (list_all is_fit_entry h)) (sym history_is) (ready_fit _ _ _ _ (ready none));
  few = λ none. let few = ready_few _ _ _ _ (ready none) in omega (arith, few, ap length history_is);
  disk = λ tells text is.
      let told = subst (λ (o : Opening S D). TellsBytes members o.journal.disk) (sym same) tells in
      let left = leaves_session runs members after keeps law told text (subst (λ (o : Opening S D). IsReady members o.journal text o.history) (sym same) is) in
      subst (λ (o : Opening S D). LeavesSession members (record { text = text; first = o.history; log = posted.log.items; failed = failed_entry after }) o.journal.disk posted.disk) same
      (subst (λ (l : Log). LeavesSession members (record { text = text; first = after.opening.history; log = l; failed = failed_entry after }) after.opening.journal.disk posted.disk) (sym log_is)
      (subst (λ (d : D). LeavesSession members (session_of text after) after.opening.journal.disk d) (sym disk_is) left));
  names = λ tells text found is.
      let told = subst (λ (o : Opening S D). TellsBytes members o.journal.disk) (sym same) tells in
      let left = leaves_names runs members after keeps law told text found
      (subst (λ (o : Opening S D). IsReadyAs members o.journal text found × (entries found ≡ o.history)) (sym same) is) in
      subst (λ (o : Opening S D). LeavesNames members text found (accepted posted.log.items ++ unsure (failed_entry after)) o.journal posted.disk) same
      (subst (λ (l : Log). LeavesNames members text found (accepted l ++ unsure (failed_entry after)) after.opening.journal posted.disk) (sym log_is)
      (subst (λ (d : D). LeavesNames members text found (accepted after.log ++ unsure (failed_entry after)) after.opening.journal d) (sym disk_is) left));
  goes = subst (λ (o : Opening S D). Goes members (IsSome (failed_entry after)) o.journal.disk posted.disk) same
      (subst (λ (d : D). Goes members (IsSome (failed_entry after)) after.opening.journal.disk d) (sym disk_is) (goes_since runs members after keeps));
}
  where
    ready : failed_entry after ≡ None → IsReady members after.journal (keeps.text.0) after.history
    ready none = ready_now runs members after keeps (failed_none after.failed none)

-- What an executive keeps, at its opening and after each answer of a post.
use Rattle.std.proofs.Common.{◌≡◌, ◌≤◌, ◌<◌, ◌+◌, ◌^◌, ℕ, List, [], ◌∷◌, ◌++◌, Option, Some, None, length, refl, sym, ◌∙◌, ap, subst, arith, append_assoc, append-nil, IsTrue, IsFalse}
use Rattle.std.proofs.lemmas.List.{length-map, map-append}
use Rattle.px_value.proofs.General.{is_some_at, none_or_some, told_of}
use Rattle.px_core.specs.Plan.{Site}
use Rattle.px_event.specs.Fit.{is_fit_entry}
use Rattle.px_event.specs.declared.entry.Entry.{Entry}
use Rattle.px_event.specs.declared.named.NamedEntry.{NamedEntry}
use Rattle.px_event.specs.declared.reply.Reply.{Reply}
use Rattle.px_event.specs.declared.reply.Reply.TheVariants as replies
use Rattle.px_journal.specs.Journal.{IsReady, IsReadyAs, with_name}
use Rattle.px_journal.specs.declared.journal.Journal.{Journal}
use Rattle.px_journal.proofs.Going.{rose_on, goes_none, goes_then, goes_told}
use Rattle.px_journal.proofs.Moments.{grows_length, told_since}
use Rattle.px_ports.specs.declared.disk.Disk
use Rattle.px_sem.specs.Log.{Log, is_accepted, accepted, events_of, answer, world_after, AnswersEach}
use Rattle.px_sem.specs.Run.{run}
use Rattle.px_sem.specs.Stepper.{State, settled_state}
use Rattle.px_sem.specs.declared.stepper.Stepper
use Rattle.px_exec.specs.declared.closing.Failed.{Failed}
use Rattle.px_exec.specs.Answers.{answer_now, logged}
use Rattle.px_exec.specs.Crash.{AddsAtMost}
use Rattle.px_exec.specs.Executive.{Opening, Executive, Keeps, KeepsDisk, IsOpen, IsClosed, KeepsNaming, KeepsSinceOpening, TellsBytes, failed_entries, plan_of, world_of}
use Rattle.px_sem.proofs.Logs.{accepted_by, accepted-append, answers_more}
use Rattle.px_exec.proofs.Growing.{run_after}
use Rattle.px_exec.proofs.Images.{ready_leaves, within_at_once, within_more}
use Rattle.px_exec.proofs.Naming.{with_parts, naming_at_once, naming_more, naming_still}

-- an executive that no post has reached
abbrev pub opened : {S D : Type 0} → S → Journal D → List Entry → Log → Opening S D → Executive S D
opened stepper journal history log opening =
    record { stepper = stepper; journal = journal; history = history; log = log; failed = None; opening = opening }

-- the opening keeps what it was handed
pub opening_of : {S D : Type 0} {stepper first : S} {kept journal : Journal D} {front history : List Entry} (limit : ℕ) → stepper ≡ first → kept ≡ journal → front ≡ history
    → ◌≡◌ {A = Opening S D} (record { stepper = stepper; journal = kept; history = front; limit = limit }) (record { stepper = first; journal = journal; history = history; limit = limit })
opening_of {S} {D} {stepper} {first} {kept} {journal} {front} {history} limit s j h =
    ap (λ (x : S). let o : Opening S D = record { stepper = x; journal = kept; history = front; limit = limit } in o) s
    ∙ ap (λ (x : Journal D). let o : Opening S D = record { stepper = first; journal = x; history = front; limit = limit } in o) j
    ∙ ap (λ (x : List Entry). let o : Opening S D = record { stepper = first; journal = journal; history = x; limit = limit } in o) h

module _ {S D : Type 0} (runs : Stepper.Ghosts S) (members : Disk.Ghosts D) where
  pub open_of : (exec : Executive S D) → Keeps runs members exec → exec.failed ≡ None → IsOpen members exec
  open_of exec keeps unfailed = subst (KeepsDisk runs members exec) unfailed keeps.disk

  pub closed_of : (exec : Executive S D) → Keeps runs members exec → (failed : Failed) → exec.failed ≡ Some failed → IsClosed runs members exec failed
  closed_of exec keeps failed is = subst (KeepsDisk runs members exec) is keeps.disk

  -- ---- the journal after a reply

  module _ (old : Executive S D) (stepper : S) (journal : Journal D) (entry : Entry) where
    accepted_open : (history : List Entry) (log : Log) → Keeps runs members old → old.failed ≡ None → history ≡ old.history ++ entry ∷ []
        → ((text : List ℕ) (h : List Entry) → IsReady members old.journal text h → IsReady members journal text (h ++ entry ∷ []))
        → {F : Type 0} → AddsAtMost members F entry old.journal journal → IsOpen members (with_parts old stepper journal history log None)
    accepted_open history log keeps unfailed grows kept adds = record {
      stands = λ text is. subst (IsReady members journal text) (sym grows) (kept text old.history ((open_of old keeps unfailed).stands text is));
      since = subst (λ (h : List Entry). KeepsSinceOpening members (with_parts old stepper journal h log None) h) (sym grows) (λ tells text is.
          let told = told_of (members.content old.journal.disk) (keeps.goes.tells ∙ tells) in
          within_more members.images text old.opening.history old.history (accepted old.log) entry _ _ _ keeps.grown ((open_of old keeps unfailed).since tells text is)
          (adds.whole_or_not text old.history ((open_of old keeps unfailed).stands text is) (told.0) (told.1)));
    }

    refused_open : (history : List Entry) (log : Log) → Keeps runs members old → old.failed ≡ None → history ≡ old.history → journal ≡ old.journal
        → IsOpen members (with_parts old stepper journal history log None)
    refused_open history log keeps unfailed same still =
        subst (λ (h : List Entry). IsOpen members (with_parts old stepper journal h log None)) (sym same)
        (subst (λ (j : Journal D). IsOpen members (with_parts old stepper j old.history log None)) (sym still)
        (let was = open_of old keeps unfailed in record { stands = was.stands; since = was.since }))

    pub replied_open : (history : List Entry) (log : Log) (reply : Reply) → Keeps runs members old → old.failed ≡ None
        → history ≡ old.history ++ accepted (logged entry reply ∷ [])
        → (IsTrue (is_accepted reply) → (text : List ℕ) (h : List Entry) → IsReady members old.journal text h → IsReady members journal text (h ++ entry ∷ []))
        → (IsFalse (is_accepted reply) → journal ≡ old.journal)
        → {F : Type 0} → AddsAtMost members F entry old.journal journal → IsOpen members (with_parts old stepper journal history log None)
    replied_open history log (replies.Accepted position) keeps unfailed grows kept still adds = accepted_open history log keeps unfailed grows (kept refl) adds
    replied_open history log replies.PlanFinished keeps unfailed grows kept still adds = refused_open history log keeps unfailed (grows ∙ append-nil old.history) (still refl)
    replied_open history log replies.Full keeps unfailed grows kept still adds = refused_open history log keeps unfailed (grows ∙ append-nil old.history) (still refl)
    replied_open history log replies.Runaway keeps unfailed grows kept still adds = refused_open history log keeps unfailed (grows ∙ append-nil old.history) (still refl)

  -- ---- the names after a reply

  tells_now : (exec : Executive S D) → Keeps runs members exec → TellsBytes members exec.opening.journal.disk → TellsBytes members exec.journal.disk
  tells_now exec keeps tells = keeps.goes.tells ∙ tells

  pub replied_naming : (old : Executive S D) (stepper : S) (journal : Journal D) (entry : Entry) (history : List Entry) (log : Log) (reply : Reply) → Keeps runs members old → old.failed ≡ None
      → log ≡ old.log ++ logged entry reply ∷ []
      → (IsTrue (is_accepted reply) → (text : List ℕ) (named : List NamedEntry) → IsReadyAs members old.journal text named
      → IsReadyAs members journal text (named ++ with_name old.journal entry ∷ []))
      → (IsFalse (is_accepted reply) → journal ≡ old.journal)
      → {F : Type 0} → AddsAtMost members F entry old.journal journal → KeepsNaming members (with_parts old stepper journal history log None)
  replied_naming old stepper journal entry history log reply keeps unfailed logs named still adds = by reply refl
    where
      now : accepted log ++ [] ≡ accepted old.log ++ accepted (logged entry reply ∷ [])
      now = append-nil (accepted log) ∙ ap accepted logs ∙ accepted-append old.log (logged entry reply ∷ [])

      refused : IsFalse (is_accepted reply) → accepted (logged entry reply ∷ []) ≡ [] → KeepsNaming members (with_parts old stepper journal history log None)
      refused is none = naming_still members old stepper history log None keeps.naming unfailed journal (still is)
          (now ∙ ap (λ h. accepted old.log ++ h) none ∙ ap (λ (f : Option Failed). accepted old.log ++ failed_entries f) (sym unfailed))

      by : (r : Reply) → reply ≡ r → KeepsNaming members (with_parts old stepper journal history log None)
      by (replies.Accepted position) is = naming_more members old stepper history log None keeps.naming unfailed journal entry adds (tells_now old keeps)
          (now ∙ ap (λ (r : Reply). accepted old.log ++ accepted (logged entry r ∷ [])) is) (λ none. named (ap is_accepted is))
      by replies.PlanFinished is = refused (ap is_accepted is) (ap (λ (r : Reply). accepted (logged entry r ∷ [])) is)
      by replies.Full is = refused (ap is_accepted is) (ap (λ (r : Reply). accepted (logged entry r ∷ [])) is)
      by replies.Runaway is = refused (ap is_accepted is) (ap (λ (r : Reply). accepted (logged entry r ∷ [])) is)

  -- the events of the history, as the log has them
  events_grown : (first since : List Entry) (history : List Entry) → history ≡ first ++ since → events_of history ≡ events_of first ++ events_of since
  events_grown first since history grown = ap events_of grown ∙ map-append (λ e. e.event) first since

  count_of : (history : List Entry) → length (events_of history) ≡ length history
  count_of history = length-map history (λ e. e.event)

  -- ---- after a reply
  pub keeps_replied : (old : Executive S D) (stepper : S) (journal : Journal D) (history : List Entry) (log : Log) (entry : Entry) (reply : Reply)
      → Keeps runs members old → old.failed ≡ None → reply ≡ answer_now runs old entry
      → log ≡ old.log ++ logged entry reply ∷ [] → history ≡ old.history ++ accepted (logged entry reply ∷ []) → length log < 2 ^ 32
      → runs.state stepper ≡ settled_state (plan_of runs old) (world_after (plan_of runs old) (world_of runs old) entry.event reply)
      → (IsTrue (is_accepted reply) → (text : List ℕ) (h : List Entry) → IsReady members old.journal text h → IsReady members journal text (h ++ entry ∷ []))
      → (IsTrue (is_accepted reply) → (text : List ℕ) (named : List NamedEntry) → IsReadyAs members old.journal text named
      → IsReadyAs members journal text (named ++ with_name old.journal entry ∷ []))
      → (IsFalse (is_accepted reply) → journal ≡ old.journal)
      → {F : Type 0} → ¬ F → AddsAtMost members F entry old.journal journal → Keeps runs members (with_parts old stepper journal history log None)
  keeps_replied old stepper journal history log entry reply keeps unfailed due logs grows few moved kept named still right adds = record {
    text = keeps.text;
    least = keeps.least;
    most = keeps.most;
    legal = record {
      runs = keeps.legal.runs;
      answers = subst (AnswersEach plan old.opening.limit (events_of old.opening.history)) (sym logs)
          (answers_more plan old.opening.limit (events_of old.opening.history) old.log (logged entry reply) (world_of runs old) keeps.legal.answers
          (ap (run plan) (sym events) ∙ keeps.runs_to)
          (due ∙ ap (λ n. answer plan old.opening.limit n (world_of runs old) entry.event) (sym (count_of old.history) ∙ ap length events)));
    };
    grown = grows ∙ ap (λ h. h ++ accepted (logged entry reply ∷ [])) keeps.grown
        ∙ append_assoc old.opening.history (accepted old.log) (accepted (logged entry reply ∷ []))
        ∙ ap (λ h. old.opening.history ++ h) (sym (accepted-append old.log (logged entry reply ∷ [])) ∙ ap accepted (sym logs));
    few = few;
    settled = moved ∙ ap (settled_state plan) (sym world_is);
    runs_to = ap (λ h. run plan (events_of h)) grows ∙ run_after plan old.opening.limit old.history (world_of runs old) entry reply keeps.runs_to due ∙ ap Some (sym world_is);
    goes = goes_told members (goes_then members keeps.goes (none_or_some old.failed unfailed) adds.goes) (λ failed. absurd (right failed)) (λ some. absurd (cc));
    disk = replied_open old stepper journal entry history log reply keeps unfailed grows kept still adds;
    naming = replied_naming old stepper journal entry history log reply keeps unfailed logs named still adds;
  }
    where
      plan : List Site
      plan = plan_of runs old

      events : events_of old.history ≡ events_of old.opening.history ++ events_of (accepted old.log)
      events = events_grown old.opening.history (accepted old.log) old.history keeps.grown

      world_is : (runs.state stepper).world ≡ world_after plan (world_of runs old) entry.event reply
      world_is = ap (λ (s : State). s.world) moved

  -- ---- after a failed append
  pub keeps_failed : (old : Executive S D) (stepper : S) (journal : Journal D) (entry : Entry) (position : ℕ)
      → Keeps runs members old → old.failed ≡ None → IsTrue (is_fit_entry entry) → answer_now runs old entry ≡ replies.Accepted position
      → runs.state stepper ≡ runs.state old.stepper → {F : Type 0} → F → AddsAtMost members F entry old.journal journal
      → Keeps runs members (with_parts old stepper journal old.history old.log (Some (record { entry = entry; faults = members.faults journal.disk })))
  keeps_failed old stepper journal entry position keeps unfailed fit due same failed adds = record {
    text = keeps.text;
    least = keeps.least;
    most = keeps.most;
    legal = keeps.legal;
    grown = keeps.grown;
    few = keeps.few;
    settled = same ∙ keeps.settled ∙ ap (settled_state (plan_of runs old)) (sym world_is);
    runs_to = keeps.runs_to ∙ ap Some (sym world_is);
    goes = goes_told members (goes_then members keeps.goes (none_or_some old.failed unfailed) adds.goes) (λ so. refl) (λ some. failed);
    disk = record {
      fit = fit;
      due = record {
        runs = is_some_at (run (plan_of runs old) (events_of old.history)) (world_of runs old) keeps.runs_to;
        answers = ((world_of runs old, keeps.runs_to, now_due), tt);
      };
      settles = is_some_at (run (plan_of runs old) (events_of (old.history ++ entry ∷ []))) _
          (run_after (plan_of runs old) old.opening.limit old.history (world_of runs old) entry (replies.Accepted position) keeps.runs_to (sym due));
      rose = rose_on _ _ _ keeps.goes.faults.later (adds.goes.faults.rose failed);
      counted = omega arith;
      now = λ tells text is image left.
          let told = told_of (members.content old.journal.disk) (keeps.goes.tells ∙ tells) in
          (adds.whole_or_not text old.history (was.stands text is) (told.0) (told.1)).each image (told_since members.images _ image _ (grows_length _ _ adds.goes.grows) left);
      since = λ tells text is.
          let told = told_of (members.content old.journal.disk) (keeps.goes.tells ∙ tells) in
          within_more members.images text old.opening.history old.history (accepted old.log) entry _ _ _ keeps.grown (was.since tells text is)
          (adds.whole_or_not text old.history (was.stands text is) (told.0) (told.1));
    };
    naming = naming_more members old stepper old.history old.log (Some (record { entry = entry; faults = members.faults journal.disk })) keeps.naming unfailed journal entry adds
        (tells_now old keeps) refl (λ none. absurd (cc));
  }
    where
      was : IsOpen members old
      was = open_of old keeps unfailed

      world_is : (runs.state stepper).world ≡ world_of runs old
      world_is = ap (λ (s : State). s.world) same

      -- the position is the next one, and the count is that of the history's events
      now_due : replies.Accepted (length old.history + 1) ≡ answer (plan_of runs old) old.opening.limit (length (events_of old.history)) (world_of runs old) entry.event
      now_due =
          let found = accepted_by _ _ _ (length old.history) position due in
          ap replies.Accepted (sym found.2) ∙ sym due
          ∙ ap (λ n. answer (plan_of runs old) old.opening.limit n (world_of runs old) entry.event) (sym (count_of old.history))

  -- ---- where nothing happened but room was made
  pub keeps_as_before : (old : Executive S D) (stepper : S) (journal : Journal D) (history : List Entry) (log : Log) (failed : Option Failed)
      → Keeps runs members old → runs.state stepper ≡ runs.state old.stepper → journal ≡ old.journal → history ≡ old.history → log ≡ old.log
      → failed ≡ old.failed → Keeps runs members (with_parts old stepper journal history log failed)
  keeps_as_before old stepper journal history log failed keeps same still h l f =
      subst (λ (f : Option Failed). Keeps runs members (with_parts old stepper journal history log f)) (sym f)
      (subst (λ (l : Log). Keeps runs members (with_parts old stepper journal history l old.failed)) (sym l)
      (subst (λ (h : List Entry). Keeps runs members (with_parts old stepper journal h old.log old.failed)) (sym h)
      (subst (λ (j : Journal D). Keeps runs members (with_parts old stepper j old.history old.log old.failed)) (sym still)
      (record {
        text = keeps.text;
        least = keeps.least;
        most = keeps.most;
        legal = keeps.legal;
        grown = keeps.grown;
        few = keeps.few;
        settled = same ∙ keeps.settled ∙ ap (settled_state (plan_of runs old)) (sym (ap (λ (s : State). s.world) same));
        runs_to = keeps.runs_to ∙ ap Some (sym (ap (λ (s : State). s.world) same));
        goes = keeps.goes;
        disk = moved old.failed keeps.disk;
        naming = record { version = keeps.naming.version; names = keeps.naming.names; stands = keeps.naming.stands; since = keeps.naming.since };
      }))))
    where
      moved : (f : Option Failed) → KeepsDisk runs members old f
          → KeepsDisk runs members (with_parts old stepper old.journal old.history old.log old.failed) f
      moved None unfailed = record { stands = unfailed.stands; since = unfailed.since }
      moved (Some f) closed = record {
        fit = closed.fit;
        due = closed.due;
        settles = closed.settles;
        rose = closed.rose;
        counted = closed.counted;
        now = closed.now;
        since = closed.since;
      }

  -- ---- at the opening

  at_once : (stepper first : S) (journal : Journal D) (history : List Entry) (limit : ℕ) → (text : List ℕ) × IsReady members journal text history
      → 1 ≤ limit → limit ≤ 100000 → runs.state stepper ≡ settled_state (runs.state first).nodes (runs.state stepper).world
      → run (runs.state first).nodes (events_of history) ≡ Some (runs.state stepper).world
      → Keeps runs members (opened stepper journal history [] (record { stepper = first; journal = journal; history = history; limit = limit }))
  at_once stepper first journal history limit ready least most settled runs_to = record {
    text = ready;
    least = least;
    most = most;
    legal = record { runs = is_some_at (run (runs.state first).nodes (events_of history)) _ runs_to; answers = tt };
    grown = sym (append-nil history);
    few = omega arith;
    settled = settled;
    runs_to = runs_to;
    goes = goes_none members journal.disk (λ some. absurd (cc));
    disk = record {
      stands = λ text is. is;
      since = λ tells text is.
          let told = told_of (members.content journal.disk) tells in
          ready_leaves members journal text (told.0) history _ is (told.1) (within_at_once text history);
    };
    naming = naming_at_once members _ refl refl refl;
  }

  -- the same, with what the opening keeps of what it was handed
  pub keeps_at_once : (stepper first : S) (journal : Journal D) (history : List Entry) (limit : ℕ) (kept_stepper : S) (kept_journal : Journal D)
      (kept_history : List Entry) (log : Log) → kept_stepper ≡ first → kept_journal ≡ journal → kept_history ≡ history → log ≡ []
      → (text : List ℕ) × IsReady members journal text history
      → 1 ≤ limit → limit ≤ 100000 → runs.state stepper ≡ settled_state (runs.state first).nodes (runs.state stepper).world
      → run (runs.state first).nodes (events_of history) ≡ Some (runs.state stepper).world
      → Keeps runs members (opened stepper journal history log (record { stepper = kept_stepper; journal = kept_journal; history = kept_history; limit = limit }))
  keeps_at_once stepper first journal history limit kept_stepper kept_journal kept_history log s j h l ready least most settled runs_to =
      subst (λ (o : Opening S D). Keeps runs members (opened stepper journal history log o)) (sym (opening_of limit s j h))
      (subst (λ (l : Log). Keeps runs members (opened stepper journal history l (record { stepper = first; journal = journal; history = history; limit = limit }))) (sym l)
      (at_once stepper first journal history limit ready least most settled runs_to))

-- What the bytes of a journal exclude of one another: what stands for a text and a history is refused only where that runs
-- away.
use Rattle.std.proofs.Common.{◌≡◌, inl, inr, ℕ, List, [], ◌∷◌, ◌++◌, Option, Some, None, IsSome, IsTrue, refl, ap, subst, sym, ◌∙◌, append_assoc}
use Rattle.std.proofs.lemmas.Bool.{both_ways}
use Rattle.std.proofs.lemmas.List.{map-append}
use Rattle.px_value.proofs.General.{is_some_at, none_or_some}
use Rattle.px_core.specs.Plan.{Site, Tree, sites}
use Rattle.px_event.specs.declared.entry.Entry.{Entry}
use Rattle.px_compile.specs.Compiled.{IsCompiled}
use Rattle.px_compile.proofs.Refusals.{no_refusal, one_plan}
use Rattle.px_exec.specs.Opening.{RunsAwayAt}
use Rattle.px_journal.specs.Layout.{is_nothing, Stands}
use Rattle.px_journal.proofs.Meaning.{one_meaning_text, one_meaning_history}
use Rattle.px_journal.proofs.Ready.{stands_not_nothing}
use Rattle.px_journal.proofs.Undamaged.{undamaged}
use Rattle.px_output.proofs.Telling.{run_starts}
use Rattle.px_ports.specs.declared.disk.Disk
use Rattle.px_sem.specs.Log.{events_of}
use Rattle.px_sem.specs.Run.{started, settled_world, run}
use Rattle.px_sem.proofs.Logs.{run_on_front}
use Rattle.px_ending.specs.Ending.{Ending, no_journal, journal_damaged, journal_plan, journal_runaway}
use Rattle.px_session.specs.Session.{StandsFor}
use Rattle.px_run.specs.Journaled.{JournalRefuses, HasNoJournal, CannotRun}

-- ---- runs

pub some_or_none : {A : Type 0} {found : Option A} (some : A) → found ≡ Some some → found ≡ None → ⊥
some_or_none some has none = none_or_some _ none (is_some_at _ some has)

-- no event of a history that has a run runs away
pub runs_to_its_end : (plan : List Site) (history : List Entry) (at : ℕ) → RunsAwayAt plan history at → IsSome (run plan (events_of history)) → ⊥
runs_to_its_end plan history at away some =
    let before = away.before ++ away.entry ∷ [] in
    let parts : history ≡ before ++ away.rest = away.parts ∙ sym (append_assoc away.before (away.entry ∷ []) away.rest) in
    let split : events_of history ≡ events_of before ++ events_of away.rest = ap events_of parts ∙ map-append (λ e. e.event) before away.rest in
    none_or_some (run plan (events_of before)) away.runs_away
    (run_on_front plan (settled_world (started plan)) (events_of before) (events_of away.rest) (subst (λ events. IsSome (run plan events)) split some))

-- ---- bytes

-- what stands for a text and a history is a journal
pub stands_something : (bytes text : List ℕ) (history : List Entry) → Stands bytes text history → IsTrue (is_nothing bytes) → ⊥
stands_something bytes text history stands nothing = both_ways (is_nothing bytes) (stands_not_nothing bytes text history stands) nothing

-- where it stands, one is there and undamaged
pub never_none : {D : Type 0} (members : Disk.Ghosts D) (disk : D) (bytes text : List ℕ) (first : List Entry) → members.content disk ≡ Some bytes
    → Stands bytes text first → (ending : Ending) → HasNoJournal members disk ending → ⊥
never_none members disk bytes text first told stands _ (HasNoJournal.nothing nothing) = stands_something bytes text first stands (nothing bytes told)
never_none members disk bytes text first told stands _ (HasNoJournal.damaged at damaged) = undamaged bytes text first stands at ((damaged bytes told).1)

-- ---- refusals of a disk

-- the start of this plan doesn't settle, or an event of this history doesn't
pub data RunsAway (tree : Tree) (first : List Entry) (ending : Ending) : Type 0 where
  start : ending.status ≡ 6 → started (sites tree) ≡ None → RunsAway tree first ending
  event : (at : ℕ) → RunsAwayAt (sites tree) first at → RunsAway tree first ending

module _ {D : Type 0} (members : Disk.Ghosts D) (disk : D) (bytes text : List ℕ) (first : List Entry) (tree : Tree) (told : members.content disk ≡ Some bytes)
    (stands : Stands bytes text first) (compiled : IsCompiled text tree) where
  pub same_text : (other : List ℕ) (others : List Entry) → StandsFor members disk other others → other ≡ text
  same_text other others so = one_meaning_text bytes other text others first (so bytes told) stands

  pub same_first : (other : List ℕ) (others : List Entry) → StandsFor members disk other others → others ≡ first
  same_first other others so = one_meaning_history bytes other text others first (so bytes told) stands

  pub same_tree : (other : List ℕ) (others : List Entry) (found : Tree) → StandsFor members disk other others → IsCompiled other found
      → found ≡ tree
  same_tree other others found so spells = one_plan text found tree (subst (λ t. IsCompiled t found) (same_text other others so) spells) compiled

  -- it is refused only where its plan or its history runs away
  pub only_runs_away : (ending : Ending) → JournalRefuses members disk ending → RunsAway tree first ending
  only_runs_away ending (inl none) = absurd (never_none members disk bytes text first told stands ending none)
  only_runs_away _ (inr (other, others, so, CannotRun.no_plan fault some refused)) =
      absurd (no_refusal other tree fault some (subst (λ t. IsCompiled t tree) (sym (same_text other others so)) compiled) refused)
  only_runs_away _ (inr (other, others, so, CannotRun.start_runs_away found spells is)) =
      RunsAway.start refl (ap (λ t. started (sites t)) (sym (same_tree other others found so spells)) ∙ is)
  only_runs_away _ (inr (other, others, so, CannotRun.event_runs_away found at spells away)) =
      RunsAway.event at (subst (λ t. RunsAwayAt (sites t) first at) (same_tree other others found so spells)
      (subst (λ h. RunsAwayAt (sites found) h at) (same_first other others so) away))

  -- so it isn't where the history has a run
  pub never_refused : (ending : Ending) → IsSome (run (sites tree) (events_of first)) → JournalRefuses members disk ending → ⊥
  never_refused ending runs refuses = by (only_runs_away ending refuses)
    where
      by : RunsAway tree first ending → ⊥
      by (RunsAway.start is away) = none_or_some (started (sites tree)) away (run_starts (sites tree) (events_of first) runs)
      by (RunsAway.event at away) = runs_to_its_end (sites tree) first at away runs

  -- a start that doesn't settle is refused as such
  pub refused_at_start : (ending : Ending) → started (sites tree) ≡ None → JournalRefuses members disk ending → ending.status ≡ 6
  refused_at_start ending none refuses = by (only_runs_away ending refuses)
    where
      by : RunsAway tree first ending → ending.status ≡ 6
      by (RunsAway.start is away) = is
      by (RunsAway.event at away) = absurd (none_or_some (started (sites tree)) none (run_starts (sites tree) (events_of away.before) away.settles))

-- a disk is refused with one status
same_kind : {D : Type 0} (members : Disk.Ghosts D) (disk : D) (bytes : List ℕ) (first second : Ending) → members.content disk ≡ Some bytes
    → JournalRefuses members disk first → first.status ≡ 5 → JournalRefuses members disk second → second.status ≡ 5
same_kind members disk bytes first _ told refuses status (inl (HasNoJournal.nothing nothing)) = refl
same_kind members disk bytes first _ told refuses status (inl (HasNoJournal.damaged at damaged)) = refl
same_kind members disk bytes first _ told refuses status (inr (text, history, so, CannotRun.no_plan fault other refused)) = refl
same_kind members disk bytes first _ told refuses status (inr (text, history, so, CannotRun.start_runs_away tree compiled is)) =
    sym (refused_at_start members disk bytes text history tree told (so bytes told) compiled first is refuses) ∙ status
same_kind members disk bytes first _ told refuses status (inr (text, history, so, CannotRun.event_runs_away tree at compiled away)) = refl

pub one_status : {D : Type 0} (members : Disk.Ghosts D) (disk : D) (bytes : List ℕ) (first second : Ending) → members.content disk ≡ Some bytes
    → JournalRefuses members disk first → JournalRefuses members disk second → second.status ≡ first.status
one_status members disk bytes _ second told (inl (HasNoJournal.nothing nothing)) also =
    same_kind members disk bytes no_journal second told (inl (HasNoJournal.nothing nothing)) refl also
one_status members disk bytes _ second told (inl (HasNoJournal.damaged at damaged)) also =
    same_kind members disk bytes (journal_damaged at) second told (inl (HasNoJournal.damaged at damaged)) refl also
one_status members disk bytes _ second told (inr (text, history, so, CannotRun.no_plan fault other refused)) also =
    same_kind members disk bytes journal_plan second told (inr (text, history, so, CannotRun.no_plan fault other refused)) refl also
one_status members disk bytes _ second told (inr (text, history, so, CannotRun.start_runs_away tree compiled is)) also =
    refused_at_start members disk bytes text history tree told (so bytes told) compiled second is also
one_status members disk bytes _ second told (inr (text, history, so, CannotRun.event_runs_away tree at compiled away)) also =
    same_kind members disk bytes (journal_runaway at) second told (inr (text, history, so, CannotRun.event_runs_away tree at compiled away)) refl also

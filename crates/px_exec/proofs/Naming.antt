-- The names that entries have in the images since the opening, from one post to the next.
use Rattle.std.proofs.Common.{◌≡◌, ⊎_elim, ℕ, List, [], ◌∷◌, ◌++◌, Option, None, sym, ◌∙◌, ap, subst, append_assoc, append-nil, map}
use Rattle.std.proofs.lemmas.List.{map-append}
use Rattle.px_value.proofs.General.{told_of}
use Rattle.px_event.specs.declared.entry.Entry.{Entry}
use Rattle.px_event.specs.declared.named.NamedEntry.{NamedEntry}
use Rattle.px_event.specs.declared.names.ThreadName.{ThreadName}
use Rattle.px_journal.specs.Crash.{WithOrWithoutAs, LeavesOnly}
use Rattle.px_journal.specs.Journal.{IsReadyAs, name_given, with_name}
use Rattle.px_journal.specs.Layout.{StandsAs}
use Rattle.px_journal.specs.declared.journal.Journal.{Journal}
use Rattle.px_journal.specs.declared.version.Version.{Version}
use Rattle.px_journal.proofs.Moments.{leaves_both}
use Rattle.px_ports.specs.Moment.{Images}
use Rattle.px_ports.specs.declared.disk.Disk
use Rattle.px_ports.specs.declared.moment.Moment.{Moment}
use Rattle.px_sem.specs.Log.{Log, accepted}
use Rattle.px_exec.specs.declared.closing.Failed.{Failed}
use Rattle.px_exec.specs.Crash.{AddsAtMost}
use Rattle.px_exec.specs.Executive.{Executive, KeepsNaming, StandsNamed, TellsBytes, failed_entries, moments_then, named_since}
use Rattle.px_exec.proofs.Images.{ready_leaves_as}

-- the executive with other parts, of the same opening
abbrev pub with_parts : {S D : Type 0} → Executive S D → S → Journal D → List Entry → Log → Option Failed → Executive S D
with_parts exec stepper journal history log failed =
    record { stepper = stepper; journal = journal; history = history; log = log; failed = failed; opening = exec.opening }

module _ (version : Version) (text : List ℕ) (found since : List NamedEntry) where
  whole : (bytes : List ℕ) → StandsAs version bytes text (found ++ since) → StandsNamed version text found since bytes
  whole bytes stands = record { more = since; rest = []; front = sym (append-nil since); stands = stands }

  longer : (next : NamedEntry) (bytes : List ℕ) → StandsNamed version text found since bytes → StandsNamed version text found (since ++ next ∷ []) bytes
  longer next bytes within = record {
    more = within.more;
    rest = within.rest ++ next ∷ [];
    front = ap (λ (l : List NamedEntry). l ++ next ∷ []) within.front ∙ append_assoc within.more within.rest (next ∷ []);
    stands = within.stands;
  }

module _ (images : Images) (version : Version) (text : List ℕ) (found since : List NamedEntry) (next : NamedEntry) where
  either : (bytes : List ℕ) → WithOrWithoutAs version text (found ++ since) next bytes → StandsNamed version text found (since ++ next ∷ []) bytes
  either bytes = ⊎_elim
      (λ without. longer version text found since next bytes (whole version text found since bytes without))
      (λ with. whole version text found (since ++ next ∷ []) bytes (subst (StandsAs version bytes text) (append_assoc found since (next ∷ [])) with))

  -- one call that adds an entry at most, behind those since the opening
  named_more : (old mid new : List Moment) → LeavesOnly images (StandsNamed version text found since) old mid
      → LeavesOnly images (WithOrWithoutAs version text (found ++ since) next) mid new
      → LeavesOnly images (StandsNamed version text found (since ++ next ∷ [])) old new
  named_more old mid new =
      leaves_both images (StandsNamed version text found since) (WithOrWithoutAs version text (found ++ since) next)
      (StandsNamed version text found (since ++ next ∷ [])) old mid new (longer version text found since next) either

module _ {S D : Type 0} (members : Disk.Ghosts D) where
  -- ---- before the first post

  nothing_since : (exec : Executive S D) → exec.log ≡ [] → exec.failed ≡ None → named_since exec ≡ []
  nothing_since exec log failed =
      ap (λ (l : Log). map (with_name exec.opening.journal) (accepted l ++ failed_entries exec.failed)) log
      ∙ ap (λ (f : Option Failed). map (with_name exec.opening.journal) (failed_entries f)) failed

  pub naming_at_once : (exec : Executive S D) → exec.journal ≡ exec.opening.journal → exec.log ≡ [] → exec.failed ≡ None → KeepsNaming members exec
  naming_at_once exec same log failed = record {
    version = ap (λ (j : Journal D). j.version) same;
    names = ap (λ (j : Journal D). j.names) same;
    stands = λ none text found was.
        subst (λ (j : Journal D). IsReadyAs members j text (found ++ named_since exec)) (sym same)
        (subst (IsReadyAs members exec.opening.journal text) (sym (append-nil found) ∙ ap (λ (l : List NamedEntry). found ++ l) (sym nothing)) (was.0));
    since = λ tells text found was.
        let told = told_of (members.content exec.opening.journal.disk) tells in
        subst (λ (j : Journal D). LeavesOnly members.images (StandsNamed exec.opening.journal.version text found (named_since exec)) (moments_then members exec) (members.moments j.disk)) (sym same)
        (ready_leaves_as members exec.opening.journal text (told.0) found _ (was.0) (told.1)
        (λ bytes stands. record { more = []; rest = []; front = nothing; stands = subst (StandsAs exec.opening.journal.version bytes text) (sym (append-nil found)) stands }));
  }
    where
      nothing : named_since exec ≡ []
      nothing = nothing_since exec log failed

  -- ---- from one post to the next

  module _ (old : Executive S D) (stepper : S) (history : List Entry) (log : Log) (failed : Option Failed) (keeps : KeepsNaming members old) (unfailed : old.failed ≡ None) where
    -- the same entries over the same journal
    pub naming_still : (journal : Journal D) → journal ≡ old.journal → accepted log ++ failed_entries failed ≡ accepted old.log ++ failed_entries old.failed
        → KeepsNaming members (with_parts old stepper journal history log failed)
    naming_still journal still same = subst (λ (j : Journal D). KeepsNaming members (with_parts old stepper j history log failed)) (sym still) (record {
      version = keeps.version;
      names = keeps.names;
      stands = λ none text found was. subst (λ (l : List NamedEntry). IsReadyAs members old.journal text (found ++ l)) (sym since) (keeps.stands unfailed text found was);
      since = λ tells text found was.
          subst (λ (l : List NamedEntry). LeavesOnly members.images (StandsNamed old.opening.journal.version text found l) (moments_then members old) (members.moments old.journal.disk)) (sym since)
          (keeps.since tells text found was);
    })
      where
        since : map (with_name old.opening.journal) (accepted log ++ failed_entries failed) ≡ named_since old
        since = ap (map (with_name old.opening.journal)) same

    -- an entry more at most
    pub naming_more : (journal : Journal D) (entry : Entry) {F : Type 0} → AddsAtMost members F entry old.journal journal
        → (TellsBytes members old.opening.journal.disk → TellsBytes members old.journal.disk)
        → accepted log ++ failed_entries failed ≡ accepted old.log ++ entry ∷ []
        → (failed ≡ None → (text : List ℕ) (named : List NamedEntry) → IsReadyAs members old.journal text named
        → IsReadyAs members journal text (named ++ with_name old.journal entry ∷ []))
        → KeepsNaming members (with_parts old stepper journal history log failed)
    naming_more journal entry adds tells_on more kept = record {
      version = adds.version ∙ keeps.version;
      names = adds.names ∙ keeps.names;
      stands = λ none text found was.
          subst (λ (l : List NamedEntry). IsReadyAs members journal text (found ++ l)) (sym since)
          (subst (IsReadyAs members journal text) (append_assoc found (named_since old) (next ∷ [])) (kept none text (found ++ named_since old) (keeps.stands unfailed text found was)));
      since = λ tells text found was.
          let told = told_of (members.content old.journal.disk) (tells_on tells) in
          let late = adds.named_or_not text (found ++ named_since old) (keeps.stands unfailed text found was) (told.0) (told.1) in
          subst (λ (l : List NamedEntry). LeavesOnly members.images (StandsNamed old.opening.journal.version text found l) (moments_then members old) (members.moments journal.disk)) (sym since)
          (named_more members.images old.opening.journal.version text found (named_since old) next _ _ _ (keeps.since tells text found was)
          (subst (λ (v : Version). LeavesOnly members.images (WithOrWithoutAs v text (found ++ named_since old) next) (members.moments old.journal.disk) (members.moments journal.disk)) keeps.version late));
    }
      where
        next : NamedEntry
        next = with_name old.journal entry

        same : next ≡ with_name old.opening.journal entry
        same =
            ap (λ (v : Version). let n : NamedEntry = record { name = name_given v old.journal.names entry.thread; entry = entry } in n) keeps.version
            ∙ ap (λ (ns : List ThreadName). let n : NamedEntry = record { name = name_given old.opening.journal.version ns entry.thread; entry = entry } in n) keeps.names

        before : map (with_name old.opening.journal) (accepted old.log) ≡ named_since old
        before = ap (map (with_name old.opening.journal)) (sym (append-nil (accepted old.log)) ∙ ap (λ (f : Option Failed). accepted old.log ++ failed_entries f) (sym unfailed))

        since : map (with_name old.opening.journal) (accepted log ++ failed_entries failed) ≡ named_since old ++ next ∷ []
        since =
            ap (map (with_name old.opening.journal)) more
            ∙ map-append (with_name old.opening.journal) (accepted old.log) (entry ∷ [])
            ∙ ap (λ (l : List NamedEntry). l ++ with_name old.opening.journal entry ∷ []) before
            ∙ ap (λ (n : NamedEntry). named_since old ++ n ∷ []) (sym same)

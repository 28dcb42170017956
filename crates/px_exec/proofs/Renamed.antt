-- An executive that no post has reached, over its journal with other names.
use Rattle.std.proofs.Common.{◌≡◌, ℕ, List, ◌++◌, Option, refl, sym, ◌∙◌, ap, subst, append-nil}
use Rattle.px_event.specs.declared.entry.Entry.{Entry}
use Rattle.px_event.specs.declared.named.NamedEntry.{NamedEntry}
use Rattle.px_event.specs.declared.names.ThreadName.{ThreadName}
use Rattle.px_journal.specs.Journal.{IsReady, IsReadyAs, name_given}
use Rattle.px_journal.specs.declared.journal.Journal.{Journal}
use Rattle.px_journal.specs.declared.version.Version.{Version}
use Rattle.px_journal.specs.declared.version.Version.TheVariants as versions
use Rattle.px_ports.specs.declared.disk.Disk
use Rattle.px_sem.specs.Log.{Log, accepted}
use Rattle.px_sem.specs.declared.stepper.Stepper
use Rattle.px_exec.specs.declared.closing.Failed.{Failed}
use Rattle.px_exec.specs.Executive.{Executive, Keeps}
use Rattle.px_exec.specs.Opening.{IsUnposted, Renames}
use Rattle.px_exec.proofs.Keeping.{keeps_at_once}

-- in the first version no entry has a name, whatever the list
given_by : (version : Version) (given names : List ThreadName) → (version ≡ versions.Two → given ≡ names) → (thread : ℕ)
    → name_given version given thread ≡ name_given version names thread
given_by versions.One given names second thread = refl
given_by versions.Two given names second thread = ap (λ (ns : List ThreadName). name_given versions.Two ns thread) (second refl)

-- the executive over another journal, which its opening keeps
abbrev pub over : {S D : Type 0} → Executive S D → Journal D → Journal D → Executive S D
over exec journal kept = record {
  stepper = exec.stepper;
  journal = journal;
  history = exec.history;
  log = exec.log;
  failed = exec.failed;
  opening = record { stepper = exec.opening.stepper; journal = kept; history = exec.opening.history; limit = exec.opening.limit };
}

module _ {S D : Type 0} (runs : Stepper.Ghosts S) (members : Disk.Ghosts D) (old : Executive S D) (unposted : IsUnposted old)
    (journal kept : Journal D) (same : kept ≡ journal)
    (ready : (text : List ℕ) (history : List Entry) → IsReady members old.journal text history → IsReady members journal text history) where
  pub keeps_renamed : Keeps runs members old → Keeps runs members (over old journal kept)
  keeps_renamed keeps =
      subst (λ (f : Option Failed). Keeps runs members (record (over old journal kept) { failed = f })) (sym unposted.failed)
      (keeps_at_once runs members old.stepper old.opening.stepper journal old.history old.opening.limit old.opening.stepper kept old.opening.history old.log
      refl same (sym grown) unposted.log (
        keeps.text.0,
        ready (keeps.text.0) old.history (subst (λ (h : List Entry). IsReady members old.journal (keeps.text.0) h) (sym grown)
            (subst (λ (j : Journal D). IsReady members j (keeps.text.0) old.opening.history) (sym unposted.journal) (keeps.text.1))),
      )
      keeps.least keeps.most keeps.settled keeps.runs_to)
    where
      grown : old.history ≡ old.opening.history
      grown = keeps.grown ∙ ap (λ (l : Log). old.opening.history ++ accepted l) unposted.log ∙ append-nil old.opening.history

  pub renames : (names : List ThreadName) → (old.journal.version ≡ versions.Two → journal.names ≡ names) → journal.version ≡ old.journal.version → journal.disk ≡ old.journal.disk
      → ((text : List ℕ) (named : List NamedEntry) → IsReadyAs members old.journal text named → IsReadyAs members journal text named)
      → Renames members names old (over old journal kept)
  renames names second version disk ready_as = subst (λ (k : Journal D). Renames members names old (over old journal k)) (sym same) (record {
    gives = given_by journal.version journal.names names (λ two. second (sym version ∙ two));
    version = version ∙ ap (λ (j : Journal D). j.version) unposted.journal;
    disk = disk ∙ ap (λ (j : Journal D). j.disk) unposted.journal;
    kept = λ text history was. ready text history (subst (λ (j : Journal D). IsReady members j text history) (sym unposted.journal) was);
    kept_names = λ text named was. ready_as text named (subst (λ (j : Journal D). IsReadyAs members j text named) (sym unposted.journal) was);
    opening = refl;
    unposted = record { journal = refl; log = unposted.log; failed = unposted.failed };
    stepper = refl;
    history = refl;
  })

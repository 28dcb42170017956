-- What a ready journal says in whatever version, for the crates above.
use Rattle.std.proofs.Common.{◌≡◌, ◌≤◌, List, ℕ, length, ◌∙◌, subst, arith, IsTrue}
use Rattle.std.proofs.lemmas.List.Folds.{list_all-map}
use Rattle.std.specs.Prelude.{IsFalse}
use Rattle.std.specs.List.{list_all}
use Rattle.std.specs.Option.{ForSome}
use Rattle.px_value.proofs.Ascii.{list_all-weaker}
use Rattle.px_event.specs.Fit.{is_fit_entry}
use Rattle.px_event.specs.declared.entry.Entry.{Entry}
use Rattle.px_event.specs.declared.named.NamedEntry.{NamedEntry}
use Rattle.px_ports.specs.declared.disk.Disk
use Rattle.px_journal.specs.Crash.{WithOrWithout, WithOrWithoutAs, KeepsHistories, KeepsNames}
use Rattle.px_journal.specs.Goes.{LeavesAtMost}
use Rattle.px_journal.specs.Journal.{IsReady, IsReadyAs, IsSynced, with_name}
use Rattle.px_journal.specs.Layout.{entries, is_fit, is_nothing, next_gate, Stands}
use Rattle.px_journal.specs.declared.journal.Journal.{Journal}
use Rattle.px_journal.specs.declared.version.Version.{Version}
use Rattle.px_journal.proofs.Appending.{closed_within}
use Rattle.px_journal.proofs.Bodies.{entry_fits}
use Rattle.px_journal.proofs.Creating.{not_nothing}
use Rattle.px_journal.proofs.Histories.{entries_count, keeps_histories, keeps_names, length-heading, without_names}
use Rattle.px_journal.proofs.Moments.{leaves_more}
use Rattle.px_journal.proofs.Undamaged.{open_not_closed}

entries_fit : (version : Version) (named : List NamedEntry) → IsTrue (list_all (is_fit version) named) → IsTrue (list_all is_fit_entry (entries named))
entries_fit version named fit =
    list_all-map is_fit_entry (λ (n : NamedEntry). n.entry) named
    ∙ list_all-weaker (is_fit version) (λ (n : NamedEntry). is_fit_entry n.entry) (entry_fits version) named fit

module _ {D : Type 0} (members : Disk.Ghosts D) (journal : Journal D) (text : List ℕ) (history : List Entry) (ready : IsReady members journal text history) where
  pub ready_stands : ForSome (members.content journal.disk) (λ told. Stands told text history)
  ready_stands = λ told is. record { version = journal.version; named = ready.named; stands = ready.ready.stands told is; entries_are = ready.entries_are }

  pub ready_synced : IsSynced members journal.disk
  ready_synced = ready.ready.synced

  pub ready_count : journal.count ≡ length history
  ready_count = ready.ready.count ∙ entries_count ready.named history ready.entries_are

  pub ready_few : length history ≤ 100000
  ready_few = omega (arith, ready.ready.few, entries_count ready.named history ready.entries_are)

  pub ready_fit : IsTrue (list_all is_fit_entry history)
  ready_fit = subst (λ (h : List Entry). IsTrue (list_all is_fit_entry h)) ready.entries_are (entries_fit journal.version ready.named ready.ready.fit)

-- a call that adds an entry to a ready journal at most, by what it leaves with the names
module _ {D : Type 0} (members : Disk.Ghosts D) (journal : Journal D) (entry : Entry) (new : D)
    (adds : (text : List ℕ) (named : List NamedEntry) → IsReadyAs members journal text named
    → LeavesAtMost members (WithOrWithoutAs journal.version text named (with_name journal entry)) journal.disk new) where
  pub adds_whole : (text : List ℕ) (history : List Entry) → IsReady members journal text history → LeavesAtMost members (WithOrWithout text history entry) journal.disk new
  adds_whole text history ready told is =
      leaves_more members.images _ _ _ _
      (λ image left. without_names journal.version text ready.named (with_name journal entry) history image ready.entries_are left)
      (adds text ready.named ready.ready told is)

  module _ (law : ForSome (members.content journal.disk) (λ told. members.images (members.moments journal.disk) told))
      (text : List ℕ) (history : List Entry) (ready : IsReady members journal text history) where
    pub adds_keeps_names : ForSome (members.content journal.disk) (λ _. KeepsNames members.images (members.moments journal.disk) (members.moments new))
    adds_keeps_names told is =
        keeps_names journal.version members.images _ _ told text ready.named (with_name journal entry) (law told is) (ready.ready.stands told is)
        (adds text ready.named ready.ready told is)

    pub adds_keeps : ForSome (members.content journal.disk) (λ _. KeepsHistories members.images (members.moments journal.disk) (members.moments new))
    adds_keeps told is =
        keeps_histories members.images _ _ told text history entry (law told is) (ready_stands members journal text history ready told is)
        (adds_whole text history ready told is)

-- what stands for a text is not nothing
pub stands_not_nothing : (bytes text : List ℕ) (history : List Entry) → Stands bytes text history → IsFalse (is_nothing bytes)
stands_not_nothing bytes text history stands =
    let all = stands.stands in
    not_nothing bytes
    (omega (arith, closed_within (next_gate stands.version text stands.named) bytes all.closed, length-heading stands.version text))
    (open_not_closed bytes all.front.opens.gate)

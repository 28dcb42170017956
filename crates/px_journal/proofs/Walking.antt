-- A journal that was read up to a gate.
use Rattle.std.proofs.Common.{◌≡◌, ◌≤◌, ◌<◌, ◌+◌, ◌⊎◌, inl, inr, ⊎_elim, ℕ, Bool, List, [], ◌∷◌, ◌++◌, Option, length, drop, refl, ◌∙◌, subst, arith, length-append, IsTrue}
use Rattle.std.specs.Prelude.{◌==◌, IsFalse, Some}
use Rattle.std.proofs.lemmas.Bool.{eqb-true}
use Rattle.std.proofs.lemmas.Bool.Decides.{nat_tests}
use Rattle.std.specs.List.{list_all}
use Rattle.std.specs.Option.{ForSome}
use Rattle.px_event.specs.declared.entry.Entry.{Entry}
use Rattle.px_event.specs.declared.named.NamedEntry.{NamedEntry}
use Rattle.px_ports.specs.declared.disk.Disk
use Rattle.px_journal.specs.Damage.{Damaged, DamagedRecord, IsBroken}
use Rattle.px_journal.specs.Damage.Damaged.{record_is}
use Rattle.px_journal.specs.Goes.{Reads}
use Rattle.px_journal.specs.Layout.{entries, interfaces, is_fit, is_open, next_gate, record_bytes, Front, Opens}
use Rattle.px_journal.specs.declared.version.Version.{Version}
use Rattle.px_journal.proofs.Fronts.{Front-push, fits-push, next_gate-push}
use Rattle.px_journal.proofs.Histories.{length-heading, map-push}
use Rattle.px_journal.proofs.Going.{reads_nothing, reads_then}

-- behind this history stands the gate at this place, nothing was written, and no call has failed
pub record HasRead {D : Type 0} (members : Disk.Ghosts D) (old now : D) (version : Version) (plan : List ℕ) (size : ℕ) (history : List NamedEntry) (gate : ℕ) : Type 0 where
  pub place : gate ≡ next_gate version plan history
  pub within : gate < size
  pub fit : IsTrue (list_all (is_fit version) history)
  pub few : length history ≤ 100000
  pub front : ForSome (members.content old) (λ told. Front version told plan history)
  pub reads : Reads members ⊥ old now

-- the same of the entries and of their names
pub record HasReadBoth {D : Type 0} (members : Disk.Ghosts D) (old now : D) (version : Version) (plan : List ℕ) (size : ℕ) (history : List Entry)
    (names : List (Option (List ℕ))) (gate : ℕ) : Type 0 where
  pub named : List NamedEntry
  pub entries_are : entries named ≡ history
  pub names_are : interfaces named ≡ names
  pub read : HasRead members old now version plan size named gate

module _ {D : Type 0} (members : Disk.Ghosts D) (old now : D) (version : Version) (plan : List ℕ) (size : ℕ) (history : List NamedEntry) (gate : ℕ)
    (read : HasRead members old now version plan size history gate) where
  -- what is told now was told before
  now_told : (told : List ℕ) → members.content old ≡ Some told → members.content now ≡ Some told
  now_told told is = read.reads.only.bytes ∙ is

  pub read_next : (new : D) (entry : NamedEntry) (next : ℕ) → IsTrue (is_fit version entry) → next ≡ gate + 1 + length (record_bytes version entry) → next < size → length history < 100000
      → ForSome (members.content now) (λ told. Opens (record_bytes version entry) (drop gate told))
      → Reads members ⊥ now new → HasRead members old new version plan size (history ++ entry ∷ []) next
  read_next new entry next fit next_is within few opens reads = record {
    place = omega (arith, next_is, read.place, next_gate-push version plan history entry);
    within = within;
    fit = fits-push version history entry read.fit fit;
    few = omega (arith, few, length-append history (entry ∷ []));
    front = λ told is. Front-push version told plan history entry (read.front told is) fit
        (subst (λ (n : ℕ). Opens (record_bytes version entry) (drop n told)) read.place (opens told (now_told told is)));
    reads = reads_then members read.reads (λ failed. failed) reads;
  }

  pub read_damaged : (at : ℕ) (is_full : Bool) → (IsTrue is_full → length history ≡ 100000) → (IsFalse is_full → length history < 100000)
      → ForSome (members.content now) (λ told. IsTrue (is_open (drop gate told)) × (((at ≡ gate) × IsTrue is_full) ⊎ (IsFalse is_full × IsBroken version told gate at)))
      → ForSome (members.content old) (λ told. Damaged told at)
  read_damaged at is_full full not_full damaged = λ told is.
      let found = damaged told (now_told told is) in
      let row : ((at ≡ gate) × (length history ≡ 100000)) ⊎ ((length history < 100000) × IsBroken version told gate at) =
      ⊎_elim (λ much. inl (much.0, full (much.1))) (λ broken. inr (not_full (broken.0), broken.1)) (found.1) in
      record_is version plan history at (read.front told is)
      (subst (λ (n : ℕ). DamagedRecord version told history n at) read.place (record { open_gate = found.0; row = row }))

-- one entry more, with its name
pub read_both : {D : Type 0} (members : Disk.Ghosts D) (old now new : D) (version : Version) (plan : List ℕ) (size : ℕ) (history : List Entry)
    (names : List (Option (List ℕ))) (gate next : ℕ) (named : NamedEntry) (both : HasReadBoth members old now version plan size history names gate)
    → HasRead members old new version plan size (both.named ++ named ∷ []) next
    → HasReadBoth members old new version plan size (history ++ named.entry ∷ []) (names ++ named.name ∷ []) next
read_both members old now new version plan size history names gate next named both read = record {
  named = both.named ++ named ∷ [];
  entries_are = map-push (λ n. n.entry) both.named named history both.entries_are;
  names_are = map-push (λ n. n.name) both.named named names both.names_are;
  read = read;
}

-- before the first record
pub read_nothing : {D : Type 0} (members : Disk.Ghosts D) (disk : D) (version : Version) (plan : List ℕ) (size : ℕ) → next_gate version plan [] < size
    → ForSome (members.content disk) (λ told. Front version told plan []) → HasRead members disk disk version plan size [] (13 + length plan)
read_nothing members disk version plan size within front =
    let place : 13 + length plan ≡ next_gate version plan [] = omega (arith, length-heading version plan) in
    record {
      place = place;
      within = omega (arith, place, within);
      fit = refl;
      few = omega arith;
      front = front;
      reads = reads_nothing members disk (λ failed. failed);
    }

pub full_history : (n : ℕ) → IsTrue (n == 100000) → n ≡ 100000
full_history n full = eqb-true n 100000 full

pub room_in_history : (n : ℕ) → n ≤ 100000 → IsFalse (n == 100000) → n < 100000
room_in_history n few not_full = grind (arith, nat_tests)

-- What a journal stands for, and what its calls answer.
use Rattle.std.specs.Prelude.{◌≡◌, ◌≤◌, ℕ, Option, None, List, length, IsTrue, Result, Ok, Err, vec_capacity}
use Rattle.std.specs.List.{list_all}
use Rattle.std.specs.Option.{ForSome}
use Rattle.px_event.specs.Names.{name_of}
use Rattle.px_event.specs.declared.entry.Entry.{Entry}
use Rattle.px_event.specs.declared.named.NamedEntry.{NamedEntry}
use Rattle.px_event.specs.declared.names.ThreadName.{ThreadName}
use Rattle.px_ports.specs.Disk.{Told}
use Rattle.px_ports.specs.Moment.{Elapses, Stays}
use Rattle.px_ports.specs.declared.disk.Disk
use Rattle.px_journal.specs.Crash.{IsNothingOrStands}
use Rattle.px_journal.specs.Layout.{entries, interfaces, is_fit, next_gate, StandsAs}
use Rattle.px_journal.specs.declared.fault.CreateFault.{CreateFault}
use Rattle.px_journal.specs.declared.fault.CreateWhy.{CreateWhy}
use Rattle.px_journal.specs.declared.fault.RecoverFault.{RecoverFault}
use Rattle.px_journal.specs.declared.fault.RecoverWhy.{RecoverWhy}
use Rattle.px_journal.specs.declared.journal.Journal.{Journal}
use Rattle.px_journal.specs.declared.journal.Recovered.{Recovered}
use Rattle.px_journal.specs.declared.version.Version.{Version}
use Rattle.px_journal.specs.declared.version.Version.TheVariants as versions

-- a crash now leaves just what a read gives, where the disk tells it
abbrev pub IsSynced : {D : Type 0} → Disk.Ghosts D → D → Type 0
IsSynced members disk = ForSome (members.content disk)
    (λ told. (image : List ℕ) → members.images (members.moments disk) image → image ≡ told)

-- THE JOURNAL STANDS FOR A TEXT AND ENTRIES WITH THEIR NAMES, and is ready for the next entry. What it says of the bytes,
-- it says where the disk tells them: each image that a crash now may leave stands for the text and the entries.
pub record IsReadyAs {D : Type 0} (members : Disk.Ghosts D) (journal : Journal D) (text : List ℕ)
    (named : List NamedEntry) : Type 0 where
  pub synced : IsSynced members journal.disk
  pub stands : ForSome (members.content journal.disk) (λ told. StandsAs journal.version told text named)
  pub gate : journal.gate ≡ next_gate journal.version text named
  pub count : journal.count ≡ length named
  pub text_fits : length text ≤ 1048576
  pub fit : IsTrue (list_all (is_fit journal.version) named)
  pub few : length named ≤ 100000
  pub attached : IsTrue (members.is_attached journal.disk)
  pub room : 9385 ≤ vec_capacity journal.buffer

-- the same of a text and a history, whatever the names
pub record IsReady {D : Type 0} (members : Disk.Ghosts D) (journal : Journal D) (text : List ℕ)
    (history : List Entry) : Type 0 where
  pub named : List NamedEntry
  pub ready : IsReadyAs members journal text named
  pub entries_are : entries named ≡ history

-- the text and what stands behind it, up to the closed gate at this place, were read: entries and their names
pub record WereRead (content : Told) (version : Version) (text : List ℕ) (history : List Entry)
    (names : List (Option (List ℕ))) (place : ℕ) : Type 0 where
  pub named : List NamedEntry
  pub entries_are : entries named ≡ history
  pub names_are : interfaces named ≡ names
  pub gate : place ≡ next_gate version text named
  pub fit : IsTrue (list_all (is_fit version) named)
  pub few : length named ≤ 100000
  pub stands : ForSome content (λ told. StandsAs version told text named)

-- the name that the next append gives an entry of this thread: in the second version that of the thread, where it has one
abbrev pub name_given : Version → List ThreadName → ℕ → Option (List ℕ)
name_given versions.One names thread = None
name_given versions.Two names thread = name_of thread names

-- an entry with that name
abbrev pub with_name : {D : Type 0} → Journal D → Entry → NamedEntry
with_name journal entry =
    record { name = name_given journal.version journal.names entry.thread; entry = entry }

-- no write was made, not even one of no byte, and each image since is one of before
pub record IsUnwritten {D : Type 0} (members : Disk.Ghosts D) (old new : D) : Type 0 where
  pub writes : members.writes new ≡ members.writes old
  pub elapses : Elapses members.images Stays (members.moments old) (members.moments new)

-- no write was made, and what a read gives is the same
pub record IsUntouched {D : Type 0} (members : Disk.Ghosts D) (old new : D) : Type 0 where
  pub content : members.content new ≡ members.content old
  pub unwritten : IsUnwritten members old new

-- the disk after a call that takes it, which a journal has then or a fault hands back
abbrev pub disk_after : {D : Type 0} → Result (Journal D) (CreateFault D) → D
disk_after (Ok journal) = journal.disk
disk_after (Err fault) = fault.disk

-- `create` was refused for this reason
abbrev pub FailsBy : {D : Type 0} → Result (Journal D) (CreateFault D) → CreateWhy → Type 0
FailsBy (Ok journal) why = ⊥
FailsBy (Err fault) why = fault.why ≡ why

-- the same of `recover`
abbrev pub disk_recovered : {D : Type 0} → Result (Recovered D) (RecoverFault D) → D
disk_recovered (Ok recovered) = recovered.journal.disk
disk_recovered (Err fault) = fault.disk

abbrev pub IsNotRecovered : {D : Type 0} → Result (Recovered D) (RecoverFault D) → RecoverWhy → Type 0
IsNotRecovered (Ok recovered) why = ⊥
IsNotRecovered (Err fault) why = fault.why ≡ why

-- each image that a crash now may leave is nothing, or stands for some text and history
abbrev pub IsUndamaged : {D : Type 0} → Disk.Ghosts D → D → Type 0
IsUndamaged members disk = (image : List ℕ) → members.images (members.moments disk) image → IsNothingOrStands image

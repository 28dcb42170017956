-- A journal that is read on a disk, and why there is none.
use Rattle.std.specs.Prelude.{◌≡◌, ◌≢◌, ℕ, List, Some, IsFalse, is_some}
use Rattle.std.specs.Option.{ForSome}
use Rattle.px_event.specs.declared.named.NamedEntry.{NamedEntry}
use Rattle.px_journal.specs.Damage.{Damaged}
use Rattle.px_journal.specs.Goes.{RisesWhere}
use Rattle.px_journal.specs.Journal.{IsReadyAs, IsSynced, IsUnwritten, IsUntouched}
use Rattle.px_journal.specs.Layout.{entries, interfaces, is_nothing, StandsAs}
use Rattle.px_journal.specs.declared.fault.RecoverFault.{RecoverFault}
use Rattle.px_journal.specs.declared.fault.RecoverWhy.{RecoverWhy}
use Rattle.px_journal.specs.declared.fault.RecoverWhy.TheVariants as recovering
use Rattle.px_journal.specs.declared.journal.Recovered.{Recovered}
use Rattle.px_ports.specs.Host.{Rose}
use Rattle.px_ports.specs.declared.disk.Disk
use Rattle.px_session.specs.Session.{IsBoundAtMost, IsNothing}

module _ {D : Type 0} (members : Disk.Ghosts D) where
  -- A JOURNAL THAT IS READ: the disk stands for its text, and for its history with its names. Nothing was written.
  pub record IsRead (name : List ℕ) (old : D) (read : Recovered D) : Type 0 where
    pub found : List NamedEntry
    pub ready : IsReadyAs members read.journal read.plan.items found
    pub history : entries found ≡ read.history.items
    pub names : interfaces found ≡ read.names.items
    pub stands : ForSome (members.content old) (λ told. StandsAs read.journal.version told read.plan.items found)
    pub untouched : IsUntouched members old read.journal.disk
    pub bound : members.bound_to read.journal.disk ≡ Some name
    pub faults : members.faults read.journal.disk ≡ members.faults old

  -- why none is read: none stands there, it is damaged, a call of the disk failed, or memory ran out
  abbrev pub IsReadWhy : D → D → RecoverWhy → Type 0
  IsReadWhy old new recovering.NoJournal = IsNothing members old
  IsReadWhy old new (recovering.Damaged at) =
      ForSome (members.content old) (λ told. IsFalse (is_nothing told) × Damaged told at)
  IsReadWhy old new recovering.DiskFault = Rose (members.faults old) (members.faults new)
  IsReadWhy old new recovering.NoMemory = Unit {0}

  pub record IsNotRead (name : List ℕ) (old : D) (fault : RecoverFault D) : Type 0 where
    pub why : IsReadWhy old fault.disk fault.why
    -- nothing was written; but behind a failed call a read may give something else, and a crash leave more than one image
    pub unwritten : IsUnwritten members old fault.disk
    pub same : fault.why ≢ recovering.DiskFault → members.content fault.disk ≡ members.content old
    pub synced : fault.why ≢ recovering.DiskFault → IsSynced members fault.disk
    pub tells : is_some (members.content fault.disk) ≡ is_some (members.content old)
    pub bound : IsBoundAtMost members name fault.disk
    pub faults : RisesWhere (fault.why ≡ recovering.DiskFault) (members.faults old) (members.faults fault.disk)

-- What every call leaves of the disk that it works on, whatever it answers.
use Rattle.std.specs.Prelude.{◌≡◌, ◌≤◌, ℕ, List, length, take, is_some}
use Rattle.std.specs.Option.{ForSome}
use Rattle.px_ports.specs.Disk.{OnlyReads, StaysAttached}
use Rattle.px_ports.specs.Host.{Rose}
use Rattle.px_ports.specs.declared.disk.Disk
use Rattle.px_journal.specs.Crash.{LeavesOnly}

-- A COUNT THAT TELLS FAULTS: it never falls, it rose where the call failed, and else it is as it was. So a fault is told
-- just where the count went up, or may be where it stands at its last value.
pub record RisesWhere (Failed : Type 0) (before now : ℕ) : Type 0 where
  pub later : before ≤ now
  pub rose : Failed → Rose before now
  pub kept : ¬ Failed → now ≡ before

module _ {D : Type 0} (members : Disk.Ghosts D) where
  -- a crash at each moment of a call leaves only such images, where the disk tells its bytes
  abbrev pub LeavesAtMost : (List ℕ → Type 0) → D → D → Type 0
  LeavesAtMost left old new =
      ForSome (members.content old) (λ _. LeavesOnly members.images left (members.moments old) (members.moments new))

  -- HOW A DISK GOES ON: it keeps its name and stays attached, tells its bytes as before, and its moments only grow
  pub record Goes (Failed : Type 0) (old new : D) : Type 0 where
    pub tells : is_some (members.content new) ≡ is_some (members.content old)
    pub grows : take (length (members.moments old)) (members.moments new) ≡ members.moments old
    pub stays : StaysAttached (members.bound_to old) (members.bound_to new) (members.is_attached old) (members.is_attached new)
    pub faults : RisesWhere Failed (members.faults old) (members.faults new)

  -- the same of a call that only reads: no byte changes and no image, and no write is made
  pub record Reads (Failed : Type 0) (old new : D) : Type 0 where
    pub only : OnlyReads members.images (members.content old) (members.content new) (members.moments old) (members.moments new)
    pub unwritten : members.writes new ≡ members.writes old
    pub stays : StaysAttached (members.bound_to old) (members.bound_to new) (members.is_attached old) (members.is_attached new)
    pub faults : RisesWhere Failed (members.faults old) (members.faults new)

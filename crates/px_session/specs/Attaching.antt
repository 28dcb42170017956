-- A disk that was bound to no name, and is to be attached under one.
use Rattle.std.specs.Prelude.{◌≡◌, ◌≤◌, ℕ, List, Some, IsTrue}
use Rattle.px_journal.specs.Journal.{IsUntouched}
use Rattle.px_ports.specs.Host.{Rose}
use Rattle.px_ports.specs.declared.disk.Disk
use Rattle.px_session.specs.Session.{IsBoundAtMost}

module _ {D : Type 0} (members : Disk.Ghosts D) where
  pub record IsAttached (name : List ℕ) (old new : D) : Type 0 where
    pub bound : members.bound_to new ≡ Some name
    pub attached : IsTrue (members.is_attached new)
    pub untouched : IsUntouched members old new
    pub faults : members.faults new ≡ members.faults old

  -- the call has failed
  pub record IsNotAttached (name : List ℕ) (old new : D) : Type 0 where
    pub bound : IsBoundAtMost members name new
    pub untouched : IsUntouched members old new
    pub faults : members.faults old ≤ members.faults new
    pub rose : Rose (members.faults old) (members.faults new)

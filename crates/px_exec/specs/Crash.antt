-- What a crash at a moment of a post may leave.
use Rattle.std.specs.Prelude.{◌≡◌, ℕ, List}
use Rattle.std.specs.Option.{ForSome}
use Rattle.px_event.specs.declared.entry.Entry.{Entry}
use Rattle.px_event.specs.declared.named.NamedEntry.{NamedEntry}
use Rattle.px_journal.specs.Crash.{WithOrWithout, WithOrWithoutAs, KeepsHistories, KeepsNames}
use Rattle.px_journal.specs.Goes.{LeavesAtMost, Goes}
use Rattle.px_journal.specs.Journal.{IsReady, IsReadyAs, with_name}
use Rattle.px_journal.specs.declared.journal.Journal.{Journal}
use Rattle.px_ports.specs.declared.disk.Disk

-- A CALL THAT ADDS THE ENTRY TO A JOURNAL AT MOST. What it says of images, it says where the disk tells its bytes.
pub record AddsAtMost {D : Type 0} (members : Disk.Ghosts D) (Failed : Type 0) (entry : Entry) (old new : Journal D) : Type 0 where
  -- each image since the call began stands for the history with the entry or without it
  pub whole_or_not : (text : List ℕ) (history : List Entry) → IsReady members old text history
      → LeavesAtMost members (WithOrWithout text history entry) old.disk new.disk
  -- what each image since some moment begins with, the call doesn't take away
  pub keeps : ForSome (members.content old.disk)
      (λ _. KeepsHistories members.images (members.moments old.disk) (members.moments new.disk))
  -- the same with the names: the entry's is the one that the journal had for its thread
  pub named_or_not : (text : List ℕ) (named : List NamedEntry) → IsReadyAs members old text named
      → LeavesAtMost members (WithOrWithoutAs old.version text named (with_name old entry)) old.disk new.disk
  pub keeps_names : ForSome (members.content old.disk)
      (λ _. KeepsNames members.images (members.moments old.disk) (members.moments new.disk))
  -- the version and the names for further entries stay
  pub version : new.version ≡ old.version
  pub names : new.names ≡ old.names
  -- the disk goes on, and has counted a fault just where the call failed
  pub goes : Goes members Failed old.disk new.disk

-- What makes a session over a new journal, and why there is none.
use Rattle.std.specs.Prelude.{◌≡◌, ◌⊎◌, ℕ, List, [], ◌∷◌, length, take, Some, IsFalse, is_some}
use Rattle.std.specs.Option.{ForSome}
use Rattle.px_event.specs.declared.names.ThreadName.{ThreadName}
use Rattle.px_exec.specs.Executive.{Executive, IsTextOf}
use Rattle.px_exec.specs.Opening.{GivesNames}
use Rattle.px_journal.specs.Crash.{OldOrNew}
use Rattle.px_journal.specs.Goes.{RisesWhere, LeavesAtMost}
use Rattle.px_journal.specs.Journal.{IsUntouched}
use Rattle.px_journal.specs.Layout.{is_nothing, StandsAs}
use Rattle.px_journal.specs.declared.fault.CreateFault.{CreateFault}
use Rattle.px_journal.specs.declared.fault.CreateWhy.{CreateWhy}
use Rattle.px_journal.specs.declared.fault.CreateWhy.TheVariants as creating
use Rattle.px_journal.specs.declared.version.Version.{Version}
use Rattle.px_journal.specs.declared.version.Version.TheVariants as versions
use Rattle.px_ports.specs.Host.{Rose}
use Rattle.px_ports.specs.declared.disk.Disk
use Rattle.px_session.specs.Session.{unposted, HasOneHistory, IsBoundAtMost, IsNothing, IsOpening}

-- the version of a new journal: the second exactly where a thread has a name
abbrev pub version_for : List ThreadName → Version
version_for [] = versions.One
version_for (row ∷ later) = versions.Two

module _ {D : Type 0} (members : Disk.Ghosts D) where
  -- each image since is one from before, or is nothing, or stands for the text and the empty history
  pub record LeavesNew (text : List ℕ) (old new : D) : Type 0 where
    pub grows : take (length (members.moments old)) (members.moments new) ≡ members.moments old
    pub each : LeavesAtMost members (OldOrNew (members.images (members.moments old)) text) old new

  -- A NEW SESSION: its journal stands for the text and no event, on a disk that was nothing. It is of the version for these
  -- names, and gives them to the entries of their threads.
  pub record Creates {S : Type 0} (name text : List ℕ) (stepper : S) (limit : ℕ) (names : List ThreadName) (old : D)
      (exec : Executive S D) : Type 0 where
    pub runs : exec.opening.stepper ≡ stepper
    pub opening : IsOpening exec.opening.journal [] limit exec
    pub stands : IsTextOf members exec text
    pub version : exec.opening.journal.version ≡ version_for names
    pub gives : GivesNames exec.opening.journal names
    pub was_nothing : IsNothing members old
    pub leaves : LeavesNew text old exec.opening.journal.disk
    pub tells : is_some (members.content exec.opening.journal.disk) ≡ is_some (members.content old)
    pub bound : members.bound_to exec.opening.journal.disk ≡ Some name
    pub faults : members.faults exec.opening.journal.disk ≡ members.faults old

  -- why there is no new session: a journal stands there, a call of the disk failed, or memory ran out, before a write or
  -- behind the last
  abbrev pub IsCreateWhy : List ℕ → List ThreadName → D → D → CreateWhy → Type 0
  IsCreateWhy text names old new creating.Exists = ForSome (members.content old) (λ told. IsFalse (is_nothing told))
  IsCreateWhy text names old new creating.DiskFault = Rose (members.faults old) (members.faults new)
  IsCreateWhy text names old new creating.NoMemory = IsUntouched members old new
      ⊎ (IsNothing members old
      × HasOneHistory members (unposted text []) new
      × ForSome (members.content new) (λ told. StandsAs (version_for names) told text []))

  pub record IsNotCreated (name text : List ℕ) (names : List ThreadName) (old : D) (fault : CreateFault D) : Type 0 where
    pub why : IsCreateWhy text names old fault.disk fault.why
    pub leaves : LeavesNew text old fault.disk
    pub tells : is_some (members.content fault.disk) ≡ is_some (members.content old)
    pub untouched : ForSome (members.content old) (λ told. IsFalse (is_nothing told) → IsUntouched members old fault.disk)
    pub bound : IsBoundAtMost members name fault.disk
    pub faults : RisesWhere (fault.why ≡ creating.DiskFault) (members.faults old) (members.faults fault.disk)

-- The names that a session leaves in its journal.
use Rattle.std.specs.Prelude.{◌⊎◌, ℕ, List, [], ◌++◌, map}
use Rattle.std.specs.Option.{ForSome}
use Rattle.px_event.specs.declared.entry.Entry.{Entry}
use Rattle.px_event.specs.declared.named.NamedEntry.{NamedEntry}
use Rattle.px_event.specs.declared.names.ThreadName.{ThreadName}
use Rattle.px_exec.specs.Executive.{StandsNamed}
use Rattle.px_journal.specs.Crash.{LeavesOnly}
use Rattle.px_journal.specs.Journal.{name_given}
use Rattle.px_journal.specs.declared.version.Version.{Version}
use Rattle.px_ports.specs.declared.disk.Disk
use Rattle.px_sem.specs.Log.{accepted}
use Rattle.px_session.specs.Creating.{version_for}
use Rattle.px_session.specs.Session.{Session, unsure}

-- how the entries of a session are named: the version of its journal, the entries found there with the names that they
-- had, and the names of the script's threads
pub record Naming : Type 0 where
  pub version : Version
  pub found : List NamedEntry
  pub names : List ThreadName

-- that of a new journal: of the second version exactly where the script names a thread
abbrev pub new_naming : List ThreadName → Naming
new_naming names = record { version = version_for names; found = []; names = names }

-- a new entry, with its thread's name in the script where the journal has names
abbrev pub named_by : Naming → Entry → NamedEntry
named_by naming entry = record { name = name_given naming.version naming.names entry.thread; entry = entry }

-- what a session has posted, and the entry whose append failed
abbrev pub others_of : Session → List Entry
others_of session = accepted session.log ++ unsure session.failed

-- The bytes are of the version, and stand for the entries found, each with the name that it had, and for a front of the new
-- ones, each with its thread's name.
abbrev pub HasNames : Session → Naming → List ℕ → Type 0
HasNames session naming =
    StandsNamed naming.version session.text naming.found (map (named_by naming) (others_of session))

module _ {D : Type 0} (members : Disk.Ghosts D) where
  -- THE NAMES THAT A SESSION LEAVES: what a read gives has them, and so has each image since the start of the call but one
  -- of the start and an early one
  pub record LeavesNames (IsEarly : List ℕ → Type 0) (session : Session) (naming : Naming) (old new : D) : Type 0 where
    pub read : ForSome (members.content new) (HasNames session naming)
    pub each : LeavesOnly members.images
        (λ image. members.images (members.moments old) image ⊎ (IsEarly image ⊎ HasNames session naming image))
        (members.moments old) (members.moments new)

-- What became of the journal in a call, and what is due to be printed then.
use Rattle.std.specs.Prelude.{◌≡◌, ◌⊎◌, ℕ, List, [], Option, Some, None, IsTrue, IsFalse}
use Rattle.std.specs.Option.{ForSome}
use Rattle.px_event.specs.declared.entry.Entry.{Entry}
use Rattle.px_journal.specs.Journal.{IsSynced, IsUnwritten, IsUntouched}
use Rattle.px_journal.specs.Layout.{is_nothing, Stands}
use Rattle.px_ports.specs.declared.disk.Disk
use Rattle.px_session.specs.Creating.{LeavesNew}
use Rattle.px_session.specs.Session.{Session, unposted, HasOneHistory, LeavesFronts}
use Rattle.px_ending.specs.Ending.{Ending}
use Rattle.px_run.specs.Naming.{Naming, LeavesNames}
use Rattle.px_run.specs.Reading.{FileKind, Seen, Shows, Spells, Refuses}
use Rattle.px_output.specs.View.{View}

-- what is due: an ending, or nothing where memory ran out before there was one
abbrev pub Due : Type 0
Due = Option Ending

-- THE COURSE OF A CALL
pub data Course : Type 0 where
  -- nothing was written
  Untouched : Course
  -- the same, and a crash leaves just what a read gives
  Synced : Course
  -- nothing was written, but a call of the disk has failed, behind which a read may give something else
  Unread : Course
  -- the journal of this text was to be made, and a call of the disk failed on the way; one that stood there was not touched
  HalfMade : (text : List ℕ) → Course
  -- a journal was made, and a session ran over it
  Made : Session → Naming → Course
  -- a journal of this text and history was taken up, and nothing was written
  TakenUp : (text : List ℕ) (history : List Entry) → Course
  -- a journal was taken up, and a session ran over it
  GoneOn : Session → Naming → Course

-- an image while a journal is made: nothing, or the text and no entry
abbrev pub IsUnnamed : Session → List ℕ → Type 0
IsUnnamed session image = IsTrue (is_nothing image) ⊎ Stands image session.text []

module _ {D : Type 0} (members : Disk.Ghosts D) where
  -- WHAT EACH COURSE LEAVES OF THE DISK
  abbrev pub Leaves : D → D → Course → Type 0
  Leaves old new Untouched = IsUntouched members old new
  Leaves old new Synced = IsUntouched members old new × IsSynced members new
  Leaves old new Unread = IsUnwritten members old new
  Leaves old new (HalfMade text) =
      LeavesNew members text old new × ForSome (members.content old) (λ told. IsFalse (is_nothing told) → IsUntouched members old new)
  Leaves old new (Made session naming) =
      HasOneHistory members session new × LeavesFronts members (λ image. IsTrue (is_nothing image)) session old new
      × LeavesNames members (IsUnnamed session) session naming old new
  Leaves old new (TakenUp text history) =
      IsUntouched members old new × HasOneHistory members (unposted text history) new
      × LeavesFronts members (λ image. ⊥) (unposted text history) old new
  Leaves old new (GoneOn session naming) =
      HasOneHistory members session new × LeavesFronts members (λ image. ⊥) session old new
      × LeavesNames members (λ image. ⊥) session naming old new

-- a call of this course ends so
abbrev pub EndsIn : Course → Ending → Course → Due → Type 0
EndsIn so_far ending course due = (course ≡ so_far) × (due ≡ Some ending)

-- What is due where a file is read, in a call that has had this course so far: the file is refused, or what it spells goes on;
-- or memory runs out.
pub data AfterFile {A : Type 0} (kind : FileKind A) (old new : View) (name : List ℕ) (so_far : Course)
    (Next : A → Course → Due → Type 0) : Course → Due → Type 0 where
  no_memory : AfterFile kind old new name so_far Next so_far None
  refused :
      (seen : Seen) (ending : Ending) → Shows kind.limit old new name seen → Refuses kind seen ending
      → AfterFile kind old new name so_far Next so_far (Some ending)
  read :
      (seen : Seen) (part : A) (course : Course) (due : Due) → Shows kind.limit old new name seen → Spells kind seen part
      → Next part course due → AfterFile kind old new name so_far Next course due

-- A session over a journal, and what it leaves of the disk.
use Rattle.std.specs.Prelude.{◌≡◌, ◌≤◌, ◌⊎◌, ℕ, List, [], ◌++◌, length, take, Option, Some, None, IsTrue}
use Rattle.std.specs.Option.{option_to_list, ForSome}
use Rattle.px_event.specs.declared.entry.Entry.{Entry}
use Rattle.px_journal.specs.Crash.{LeavesOnly}
use Rattle.px_journal.specs.Layout.{is_nothing, Stands}
use Rattle.px_journal.specs.declared.journal.Journal.{Journal}
use Rattle.px_ports.specs.Moment.{LeftSince}
use Rattle.px_ports.specs.declared.disk.Disk
use Rattle.px_sem.specs.Log.{Log, accepted}
use Rattle.px_exec.specs.Executive.{Executive, StandsWithin}

-- A SESSION: the plan's text, the history at its opening, the log since, and the entry whose append failed, where one did.
pub record Session : Type 0 where
  pub text : List ℕ
  pub first : List Entry
  pub log : Log
  pub failed : Option Entry

-- one in which nothing was posted
abbrev pub unposted : List ℕ → List Entry → Session
unposted text history = record { text = text; first = history; log = []; failed = None }

-- every acknowledged event
abbrev pub history_of : Session → List Entry
history_of session = session.first ++ accepted session.log

-- the entry of a failed append, or none
abbrev pub unsure : Option Entry → List Entry
unsure = option_to_list

-- the longest history that the disk may have: with the entry whose append failed
abbrev pub longest_of : Session → List Entry
longest_of session = history_of session ++ unsure session.failed

-- the bytes stand for the history or, where an append failed, for that or for it with one event more
abbrev pub IsEnd : Session → List ℕ → Type 0
IsEnd session bytes =
    Stands bytes session.text (history_of session) ⊎ Stands bytes session.text (longest_of session)

-- the bytes stand for a front of it that has all that was there at first
abbrev pub IsFront : Session → List ℕ → Type 0
IsFront session bytes = StandsWithin session.text session.first (longest_of session) bytes

-- the executive is of this opening, and no post has reached it
pub record IsOpening {S D : Type 0} (journal : Journal D) (history : List Entry) (limit : ℕ) (exec : Executive S D) : Type 0 where
  pub opened : exec.opening.journal ≡ journal
  pub untouched : exec.journal ≡ journal
  pub first : exec.opening.history ≡ history
  pub now : exec.history ≡ history
  pub most : exec.opening.limit ≡ limit
  pub log : exec.log ≡ []
  pub failed : exec.failed ≡ None

module _ {D : Type 0} (members : Disk.Ghosts D) where
  -- the disk is nothing
  abbrev pub IsNothing : D → Type 0
  IsNothing disk = ForSome (members.content disk) (λ told. IsTrue (is_nothing told))

  -- the disk stands for the text and the history
  abbrev pub StandsFor : D → List ℕ → List Entry → Type 0
  StandsFor disk text history = ForSome (members.content disk) (λ told. Stands told text history)

  -- ONE HISTORY: what a read gives, and each image that a crash now may leave, stands for it
  pub record HasOneHistory (session : Session) (disk : D) : Type 0 where
    pub read : ForSome (members.content disk) (IsEnd session)
    pub left : ForSome (members.content disk)
        (λ _. (image : List ℕ) → members.images (members.moments disk) image → IsEnd session image)

  -- A STOP AT ANY MOMENT: each image since the start is one of the start or an early one, or it stands for a front of the
  -- history. At some moment each stands for the history at the opening, and from it on for such a front.
  pub record LeavesFronts (IsEarly : List ℕ → Type 0) (session : Session) (old new : D) : Type 0 where
    pub each : LeavesOnly members.images
        (λ image. members.images (members.moments old) image ⊎ (IsEarly image ⊎ IsFront session image))
        (members.moments old) (members.moments new)
    pub opened : (t : ℕ) × (length (members.moments old) ≤ t) × (t ≤ length (members.moments new))
        × ((image : List ℕ) → members.images (take t (members.moments new)) image → Stands image session.text session.first)
        × ((image : List ℕ) → LeftSince members.images (members.moments new) t image → IsFront session image)

  -- the disk is bound to this name, or to none
  abbrev pub IsBoundAtMost : List ℕ → D → Type 0
  IsBoundAtMost name disk = (members.bound_to disk ≡ Some name) ⊎ (members.bound_to disk ≡ None)

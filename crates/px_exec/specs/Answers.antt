-- What a post answers, and what it does to the executive.
use Rattle.std.specs.Prelude.{◌≡◌, ◌+◌, ℕ, List, [], ◌∷◌, ◌++◌, length, Some, None, Result, Ok, Err}
use Rattle.px_event.specs.declared.entry.Entry.{Entry}
pub use Rattle.px_event.specs.Fit.{entry_of}
use Rattle.px_event.specs.declared.reply.Reply.{Reply}
use Rattle.px_event.specs.declared.reply.Reply.TheVariants as replies
use Rattle.px_journal.specs.Journal.{IsReady}
use Rattle.px_ports.specs.Host.{Rose}
use Rattle.px_ports.specs.declared.disk.Disk
use Rattle.px_sem.specs.Log.{accepted, answer, world_after}
pub use Rattle.px_sem.specs.Log.{logged_as as logged}
use Rattle.px_sem.specs.Stepper.{settled_state}
use Rattle.px_sem.specs.World.{standing_of}
use Rattle.px_sem.specs.declared.standing.Standing.{Standing}
use Rattle.px_sem.specs.declared.stepper.Stepper
use Rattle.px_exec.specs.Executive.{Executive, plan_of, world_of, IsTextOf}
use Rattle.px_exec.specs.declared.fault.PostFault.{PostFault}
use Rattle.px_exec.specs.declared.fault.PostFault.TheVariants as faults
use Rattle.px_exec.specs.declared.receipt.Receipt.{Receipt}

-- what the poster is told of a reply
abbrev pub answered : Reply → ℕ → Standing → Result Receipt PostFault
answered (replies.Accepted position) limit standing = Ok (record { position = position; standing = standing })
answered replies.PlanFinished limit standing = Err faults.PlanFinished
answered replies.Full limit standing = Err (faults.Full limit)
answered replies.Runaway limit standing = Err faults.Runaway

-- the answer of the semantics, over the history of that moment
abbrev pub answer_now : {S D : Type 0} → Stepper.Ghosts S → Executive S D → Entry → Reply
answer_now runs exec entry =
    answer (plan_of runs exec) exec.opening.limit (length exec.history) (world_of runs exec) entry.event

-- history, log and world are as before, and so is the opening
pub record IsUnchanged {S D : Type 0} (runs : Stepper.Ghosts S) (old new : Executive S D) : Type 0 where
  pub history : new.history ≡ old.history
  pub log : new.log ≡ old.log
  pub state : runs.state new.stepper ≡ runs.state old.stepper
  pub opening : new.opening ≡ old.opening

-- The reply of an open executive is the answer of the semantics. The entry goes behind the log with it, the history and
-- the world go on as it says, and the executive stays open.
pub record Replies {S D : Type 0} (runs : Stepper.Ghosts S) (old new : Executive S D) (entry : Entry) (reply : Reply) :
    Type 0 where
  pub was_open : old.failed ≡ None
  pub due : reply ≡ answer_now runs old entry
  pub log : new.log ≡ old.log ++ logged entry reply ∷ []
  pub history : new.history ≡ old.history ++ accepted (logged entry reply ∷ [])
  pub state : runs.state new.stepper
      ≡ settled_state (plan_of runs old) (world_after (plan_of runs old) (world_of runs old) entry.event reply)
  pub opening : new.opening ≡ old.opening
  pub is_open : new.failed ≡ None

-- a reply that refuses the entry: the disk is as before too
pub record Refuses {S D : Type 0} (runs : Stepper.Ghosts S) (old new : Executive S D) (entry : Entry) (reply : Reply) :
    Type 0 where
  pub replies : Replies runs old new entry reply
  pub journal : new.journal ≡ old.journal

-- the entry was accepted: it stands in the journal behind the others
pub record Accepts {S D : Type 0} (runs : Stepper.Ghosts S) (members : Disk.Ghosts D) (old new : Executive S D)
    (entry : Entry) (receipt : Receipt) : Type 0 where
  pub replies : Replies runs old new entry (replies.Accepted receipt.position)
  pub standing : receipt.standing ≡ standing_of (plan_of runs old) (world_of runs new)
  pub kept : (text : List ℕ) → IsTextOf members old text
      → IsReady members new.journal text (old.history ++ entry ∷ [])

-- the executive was closed before, with this count
pub record WasClosed {S D : Type 0} (runs : Stepper.Ghosts S) (old new : Executive S D) (count : ℕ) : Type 0 where
  pub same : new ≡ old
  pub failed : (entry : Entry) × (old.failed ≡ Some (record { entry = entry; faults = count }))

-- the append failed: the executive is closed, with the entry that was due to be accepted and the count of faults now
pub record Fails {S D : Type 0} (runs : Stepper.Ghosts S) (members : Disk.Ghosts D) (old new : Executive S D)
    (entry : Entry) : Type 0 where
  pub unchanged : IsUnchanged runs old new
  pub was_open : old.failed ≡ None
  pub due : answer_now runs old entry ≡ replies.Accepted (length old.history + 1)
  pub rose : Rose (members.faults old.journal.disk) (members.faults new.journal.disk)
  pub failed : new.failed ≡ Some (record { entry = entry; faults = members.faults new.journal.disk })

-- memory ran out before a call of the disk
pub record RanOut {S D : Type 0} (runs : Stepper.Ghosts S) (old new : Executive S D) : Type 0 where
  pub unchanged : IsUnchanged runs old new
  pub was_open : old.failed ≡ None
  pub is_open : new.failed ≡ None
  pub journal : new.journal ≡ old.journal

-- THE ANSWERS OF A POST
abbrev pub Posts : {S D : Type 0} → Stepper.Ghosts S → Disk.Ghosts D → Executive S D → Executive S D → Entry
    → Result Receipt PostFault → Type 0
Posts runs members old new entry (Ok receipt) = Accepts runs members old new entry receipt
Posts runs members old new entry (Err (faults.Closed count)) = WasClosed runs old new count
Posts runs members old new entry (Err faults.PlanFinished) = Refuses runs old new entry replies.PlanFinished
Posts runs members old new entry (Err (faults.Full limit)) =
    Refuses runs old new entry replies.Full × (limit ≡ old.opening.limit)
Posts runs members old new entry (Err faults.Runaway) = Refuses runs old new entry replies.Runaway
Posts runs members old new entry (Err faults.DiskFault) = Fails runs members old new entry
Posts runs members old new entry (Err faults.NoMemory) = RanOut runs old new

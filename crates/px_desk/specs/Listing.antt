-- The list of a desk, and what is legal of it.
use Rattle.std.specs.Prelude.{◌≡◌, ℕ, List, [], ◌∷◌, ◌++◌, map, Option, Some, None, Result, Ok, Err, Bool, true, false}
use Rattle.std.specs.Option.{ForSome}
use Rattle.px_core.specs.Plan.{Site}
use Rattle.px_event.specs.declared.entry.Entry.{Entry}
use Rattle.px_event.specs.declared.reply.Reply.TheVariants as replies
use Rattle.px_exec.specs.Answers.{logged}
use Rattle.px_exec.specs.Executive.{Executive, Opening}
use Rattle.px_exec.specs.declared.closing.Failed.{Failed}
use Rattle.px_exec.specs.declared.fault.PostFault.{PostFault}
use Rattle.px_exec.specs.declared.fault.PostFault.TheVariants as faults
use Rattle.px_exec.specs.declared.receipt.Receipt.{Receipt}
use Rattle.px_sem.specs.Log.{Log, IsLegal, WouldBeAccepted, accepted, events_of}
use Rattle.px_sem.specs.Run.{run}
use Rattle.px_sem.specs.World.{World, standing_of}
use Rattle.px_sem.specs.declared.standing.Standing.{Standing}
use Rattle.px_sem.specs.declared.stepper.Stepper
use Rattle.px_desk.specs.declared.listing.Listing.{Listing}
use Rattle.px_desk.specs.declared.listing.Listing.TheVariants as listings

-- the list of a log, and of the append that failed behind it, where one did
abbrev pub failure : Option Failed → List Listing
failure None = []
failure (Some failed) = listings.Failed failed.entry failed.faults ∷ []

abbrev pub listing_of : Log → Option Failed → List Listing
listing_of log failed = map listings.Answered log ++ failure failed

-- THE LIST OF AN EXECUTIVE
abbrev pub listing : {S D : Type 0} → Executive S D → List Listing
listing exec = listing_of exec.log exec.failed

-- the posts of a list that were answered, with their replies
abbrev pub log_in : List Listing → Log
log_in [] = []
log_in (listings.Answered logged ∷ list) = logged ∷ log_in list
log_in (listings.Failed entry faults ∷ list) = log_in list

-- its append that failed
abbrev pub failed_in : List Listing → Option Failed
failed_in [] = None
failed_in (listings.Answered logged ∷ list) = failed_in list
failed_in (listings.Failed entry faults ∷ list) = Some (record { entry = entry; faults = faults })

-- with what a desk was opened: the plan, the history then, and the most events that it may have
pub record Start : Type 0 where
  pub plan : List Site
  pub first : List Entry
  pub limit : ℕ

abbrev pub start_of : {S D : Type 0} → Stepper.Ghosts S → Opening S D → Start
start_of runs opening = record {
  plan = (runs.state opening.stepper).nodes;
  first = opening.history;
  limit = opening.limit;
}

-- the history behind a list
abbrev pub history_on : Start → List Listing → List Entry
history_on start list = start.first ++ accepted (log_in list)

-- A LEGAL LIST: each post was answered as the semantics answers over the history then; at the end perhaps the entry of an
-- append that failed, which was to be accepted.
pub record IsLegalList (start : Start) (list : List Listing) : Type 0 where
  pub parts : list ≡ listing_of (log_in list) (failed_in list)
  pub legal : IsLegal start.plan start.first start.limit (log_in list)
  pub due : ForSome (failed_in list)
      (λ failed. WouldBeAccepted start.plan start.limit (history_on start list) failed.entry)

-- the plan stands so behind a list
abbrev pub IsStanding : Start → List Listing → Standing → Type 0
IsStanding start list standing =
    (world : World) × (run start.plan (events_of (history_on start list)) ≡ Some world)
    × (standing ≡ standing_of start.plan world)

-- the append of this entry has failed, when the disk had counted so many faults
abbrev pub HasFailed : List Listing → Entry → ℕ → Type 0
HasFailed list entry count = failed_in list ≡ Some (record { entry = entry; faults = count })

-- whether a post that was answered so is in the list
abbrev pub is_listed : Result Receipt PostFault → Bool
is_listed (Ok receipt) = true
is_listed (Err faults.PlanFinished) = true
is_listed (Err (faults.Full limit)) = true
is_listed (Err faults.Runaway) = true
is_listed (Err faults.DiskFault) = true
is_listed (Err (faults.Closed count)) = false
is_listed (Err faults.NoMemory) = false

-- THE ANSWERS OF A POST: which item was added to the list, or that none was, and what the list then shows.
module _ (start : Start) (adds : Listing → Type 0) (looks : Type 0) (list : List Listing) where
  abbrev pub Answers : Entry → Result Receipt PostFault → Type 0
  Answers entry (Ok receipt) =
      adds (listings.Answered (logged entry (replies.Accepted receipt.position))) × IsStanding start list receipt.standing
  Answers entry (Err faults.PlanFinished) = adds (listings.Answered (logged entry replies.PlanFinished))
  Answers entry (Err (faults.Full limit)) =
      adds (listings.Answered (logged entry replies.Full)) × (limit ≡ start.limit)
  Answers entry (Err faults.Runaway) = adds (listings.Answered (logged entry replies.Runaway))
  Answers entry (Err faults.DiskFault) = (count : ℕ) × adds (listings.Failed entry count) × HasFailed list entry count
  Answers entry (Err (faults.Closed count)) = looks × ((other : Entry) × HasFailed list other count)
  Answers entry (Err faults.NoMemory) = looks × (failed_in list ≡ None)

-- What a board shows to a thread, and what becomes of it: an executive, or a thread's share of one.
use Rattle.std.specs.Prelude.{◌≡◌, List, [], ◌∷◌, ◌++◌, Option, Some, None, IsSome, Result, Ok, Err}
use Rattle.px_core.specs.Plan.{Site}
use Rattle.px_event.specs.declared.entry.Entry.{Entry}
use Rattle.px_event.specs.declared.reply.Reply.{Reply}
use Rattle.px_exec.specs.Answers.{logged}
use Rattle.px_exec.specs.declared.fault.PostFault.{PostFault}
use Rattle.px_exec.specs.declared.fault.PostFault.TheVariants as faults
use Rattle.px_exec.specs.declared.receipt.Receipt.{Receipt}
use Rattle.px_sem.specs.Log.{Log, accepted}

-- WHAT A BOARD SHOWS
pub record Board : Type 0 where
  -- the plan that runs, and the history at the opening
  pub plan : List Site
  pub first : List Entry
  -- the posts that were seen since, with their replies, and the entry of a failed append, where one was seen
  pub log : Log
  pub failed : Option Entry
  -- those that were made through this board, in order, and the one whose append failed, where one did
  pub made : List Entry
  pub broke : Option Entry

-- the history behind all that is shown
abbrev pub history_on : Board → List Entry
history_on board = board.first ++ accepted board.log

-- the log has only grown
pub record IsLater (old new : Board) : Type 0 where
  pub plan : new.plan ≡ old.plan
  pub first : new.first ≡ old.first
  pub more : Log
  pub log : new.log ≡ old.log ++ more

-- nothing was posted through the board, which may show more
pub record IsLooked (old new : Board) : Type 0 where
  pub later : IsLater old new
  pub made : new.made ≡ old.made
  pub broke : new.broke ≡ old.broke

-- the entry was posted and answered, as the last that is shown
pub record IsAnswered (old new : Board) (entry : Entry) : Type 0 where
  pub plan : new.plan ≡ old.plan
  pub first : new.first ≡ old.first
  pub others : Log
  pub reply : Reply
  pub log : new.log ≡ (old.log ++ others) ++ logged entry reply ∷ []
  pub made : new.made ≡ old.made ++ entry ∷ []
  pub broke : new.broke ≡ old.broke

-- its append failed
pub record IsBroken (old new : Board) (entry : Entry) : Type 0 where
  pub later : IsLater old new
  pub made : new.made ≡ old.made
  pub broke : new.broke ≡ Some entry
  pub failed : new.failed ≡ Some entry

-- the append of some entry had failed before
pub record FindsBroken (old new : Board) : Type 0 where
  pub looked : IsLooked old new
  pub failed : IsSome new.failed

-- THE ANSWERS OF A POST
abbrev pub Posts : Board → Board → Entry → Result Receipt PostFault → Type 0
Posts old new entry (Ok receipt) = IsAnswered old new entry
Posts old new entry (Err faults.PlanFinished) = IsAnswered old new entry
Posts old new entry (Err (faults.Full limit)) = IsAnswered old new entry
Posts old new entry (Err faults.Runaway) = IsAnswered old new entry
Posts old new entry (Err faults.DiskFault) = IsBroken old new entry
Posts old new entry (Err (faults.Closed count)) = FindsBroken old new
Posts old new entry (Err faults.NoMemory) = IsLooked old new × (new.failed ≡ None)

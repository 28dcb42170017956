-- What the list of an executive is, and how a post makes it longer.
use Rattle.std.proofs.Common.{◌≡◌, List, [], ◌∷◌, ◌++◌, map, Option, Some, None, Result, Ok, Err, true, false, refl, sym, ap, ◌∙◌, subst, append-nil}
use Rattle.std.proofs.lemmas.List.{map-append}
use Rattle.px_event.specs.declared.entry.Entry.{Entry}
use Rattle.px_event.specs.declared.reply.Reply.{Reply}
use Rattle.px_exec.specs.Answers.{logged, Posts, Replies}
use Rattle.px_exec.specs.Executive.{Executive, Opening, Keeps, plan_of, world_of}
use Rattle.px_exec.specs.declared.closing.Failed.{Failed}
use Rattle.px_exec.specs.declared.fault.PostFault.{PostFault}
use Rattle.px_exec.specs.declared.fault.PostFault.TheVariants as faults
use Rattle.px_exec.specs.declared.receipt.Receipt.{Receipt}
use Rattle.px_exec.proofs.Keeping.{closed_of}
use Rattle.px_ports.specs.declared.disk.Disk
use Rattle.px_sem.specs.Log.{Log, IsLegal, WouldBeAccepted, accepted, events_of}
use Rattle.px_sem.specs.Run.{run}
use Rattle.px_sem.specs.World.{standing_of}
use Rattle.px_sem.specs.declared.log.LogEntry.{LogEntry}
use Rattle.px_sem.specs.declared.standing.Standing.{Standing}
use Rattle.px_sem.specs.declared.stepper.Stepper
use Rattle.px_desk.specs.Listing.{listing_of, listing, log_in, failed_in, Start, start_of, history_on, IsLegalList, IsStanding, HasFailed, is_listed, Answers}
use Rattle.px_desk.specs.declared.listing.Listing.{Listing}
use Rattle.px_desk.specs.declared.listing.Listing.TheVariants as listings

-- ---- a log and a failed append, and the list of them

pub log_of_listing : (log : Log) (failed : Option Failed) → log_in (listing_of log failed) ≡ log
log_of_listing [] None = refl
log_of_listing [] (Some failed) = refl
log_of_listing (logged ∷ log) failed = ap (λ (l : Log). logged ∷ l) (log_of_listing log failed)

pub failed_of_listing : (log : Log) (failed : Option Failed) → failed_in (listing_of log failed) ≡ failed
failed_of_listing [] None = refl
failed_of_listing [] (Some failed) = refl
failed_of_listing (logged ∷ log) failed = failed_of_listing log failed

-- one answered more, or the one whose append failed
listing_more : (log : Log) (logged : LogEntry)
    → listing_of (log ++ logged ∷ []) None ≡ listing_of log None ++ listings.Answered logged ∷ []
listing_more log logged =
    append-nil (map listings.Answered (log ++ logged ∷ []))
    ∙ map-append listings.Answered log (logged ∷ [])
    ∙ ap (λ (l : List Listing). l ++ listings.Answered logged ∷ []) (sym (append-nil (map listings.Answered log)))

listing_failed : (log : Log) (failed : Failed)
    → listing_of log (Some failed) ≡ listing_of log None ++ listings.Failed failed.entry failed.faults ∷ []
listing_failed log failed =
    ap (λ (l : List Listing). l ++ listings.Failed failed.entry failed.faults ∷ []) (sym (append-nil (map listings.Answered log)))

-- the list of two executives with one log and one failed append
same_listing : (log log' : Log) (failed failed' : Option Failed) → log ≡ log' → failed ≡ failed' → listing_of log failed ≡ listing_of log' failed'
same_listing log log' failed failed' same same_failed =
    ap (λ (l : Log). listing_of l failed) same ∙ ap (listing_of log') same_failed

-- ---- an executive

module _ {S D : Type 0} (runs : Stepper.Ghosts S) (members : Disk.Ghosts D) (exec : Executive S D) (keeps : Keeps runs members exec) where
  pub history_of_listing : history_on (start_of runs exec.opening) (listing exec) ≡ exec.history
  history_of_listing =
      ap (λ (log : Log). exec.opening.history ++ accepted log) (log_of_listing exec.log exec.failed) ∙ sym keeps.grown

  pub legal_listing : IsLegalList (start_of runs exec.opening) (listing exec)
  legal_listing = record {
    parts = sym (same_listing (log_in (listing exec)) exec.log (failed_in (listing exec)) exec.failed
        (log_of_listing exec.log exec.failed) (failed_of_listing exec.log exec.failed));
    legal = subst (IsLegal (plan_of runs exec) exec.opening.history exec.opening.limit)
        (sym (log_of_listing exec.log exec.failed)) keeps.legal;
    due = λ failed is.
        subst (λ (history : List Entry). WouldBeAccepted (plan_of runs exec) exec.opening.limit history failed.entry)
        (sym history_of_listing)
        (closed_of runs members exec keeps failed (sym (failed_of_listing exec.log exec.failed) ∙ is)).due;
  }

  pub stands_so : (standing : Standing) → standing ≡ standing_of (plan_of runs exec) (world_of runs exec)
      → IsStanding (start_of runs exec.opening) (listing exec) standing
  stands_so standing is = (
    world_of runs exec,
    ap (λ (history : List Entry). run (plan_of runs exec) (events_of history)) history_of_listing ∙ keeps.runs_to,
    is,
  )

-- ---- a post

module _ {S D : Type 0} (runs : Stepper.Ghosts S) (members : Disk.Ghosts D) (old new : Executive S D) (keeps : Keeps runs members new) where
  answered_list : (entry : Entry) (reply : Reply) → Replies runs old new entry reply
      → listing new ≡ listing old ++ listings.Answered (logged entry reply) ∷ []
  answered_list entry reply h =
      same_listing new.log (old.log ++ logged entry reply ∷ []) new.failed None h.log h.is_open
      ∙ listing_more old.log (logged entry reply)
      ∙ ap (λ (failed : Option Failed). listing_of old.log failed ++ listings.Answered (logged entry reply) ∷ []) (sym h.was_open)

  pub posts_list : (entry : Entry) (answer : Result Receipt PostFault) → Posts runs members old new entry answer
      → Answers (start_of runs new.opening) (λ item. listing new ≡ listing old ++ item ∷ []) (listing new ≡ listing old) (listing new) entry answer
  posts_list entry (Ok receipt) h = (
    answered_list entry _ h.replies,
    stands_so runs members new keeps receipt.standing
        (h.standing ∙ ap (λ (o : Opening S D). standing_of (runs.state o.stepper).nodes (world_of runs new)) (sym h.replies.opening)),
  )
  posts_list entry (Err faults.PlanFinished) h = answered_list entry _ h.replies
  posts_list entry (Err (faults.Full limit)) h =
      (answered_list entry _ h.0.replies, h.1 ∙ ap (λ (o : Opening S D). o.limit) (sym h.0.replies.opening))
  posts_list entry (Err faults.Runaway) h = answered_list entry _ h.replies
  posts_list entry (Err faults.DiskFault) h = (
    members.faults new.journal.disk,
    same_listing new.log old.log new.failed (Some (record { entry = entry; faults = members.faults new.journal.disk })) h.unchanged.log h.failed
        ∙ listing_failed old.log (record { entry = entry; faults = members.faults new.journal.disk })
        ∙ ap (λ (failed : Option Failed). listing_of old.log failed ++ listings.Failed entry (members.faults new.journal.disk) ∷ []) (sym h.was_open),
    failed_of_listing new.log new.failed ∙ h.failed,
  )
  posts_list entry (Err (faults.Closed count)) h = (
    ap listing h.same,
    (h.failed.0, failed_of_listing new.log new.failed ∙ ap (λ (exec : Executive S D). exec.failed) h.same ∙ h.failed.1),
  )
  posts_list entry (Err faults.NoMemory) h = (
    same_listing new.log old.log new.failed old.failed h.unchanged.log (h.is_open ∙ sym h.was_open),
    failed_of_listing new.log new.failed ∙ h.is_open,
  )

-- ---- answers, as they are told of a list and of a seat

module _ (start : Start) (entry : Entry) where
  -- an answer that is listed adds an item, and one that isn't has only looked
  pub added_or_looked : {P : Type 0} (adds : Listing → Type 0) (looks : Type 0) (after : List Listing) (answer : Result Receipt PostFault)
      → ((item : Listing) → is_listed answer ≡ true → adds item → P) → (is_listed answer ≡ false → looks → P)
      → Answers start adds looks after entry answer → P
  added_or_looked adds looks after (Ok receipt) added looked h = added _ refl h.0
  added_or_looked adds looks after (Err faults.PlanFinished) added looked h = added _ refl h
  added_or_looked adds looks after (Err (faults.Full limit)) added looked h = added _ refl h.0
  added_or_looked adds looks after (Err faults.Runaway) added looked h = added _ refl h
  added_or_looked adds looks after (Err faults.DiskFault) added looked h = added _ refl h.1
  added_or_looked adds looks after (Err (faults.Closed count)) added looked h = looked refl h.0
  added_or_looked adds looks after (Err faults.NoMemory) added looked h = looked refl h.0

  pub none_more : (old new after : List Listing) (answer : Result Receipt PostFault) → is_listed answer ≡ false
      → Answers start (λ item. new ≡ old ++ item ∷ []) (new ≡ old) after entry answer → new ≡ old
  none_more old new after answer is =
      added_or_looked (λ item. new ≡ old ++ item ∷ []) (new ≡ old) after answer (λ item listed more. absurd (cc (sym is ∙ listed))) (λ unlisted same. same)

  pub answers_told : (adds adds' : Listing → Type 0) (looks looks' : Type 0) (after after' : List Listing) (answer : Result Receipt PostFault)
      → ((item : Listing) → is_listed answer ≡ true → adds item → adds' item) → (is_listed answer ≡ false → looks') → after ≡ after'
      → Answers start adds looks after entry answer → Answers start adds' looks' after' entry answer
  answers_told adds adds' looks looks' after after' (Ok receipt) more none same h =
      (more _ refl h.0, subst (λ l. IsStanding start l receipt.standing) same h.1)
  answers_told adds adds' looks looks' after after' (Err faults.PlanFinished) more none same h = more _ refl h
  answers_told adds adds' looks looks' after after' (Err (faults.Full limit)) more none same h = (more _ refl h.0, h.1)
  answers_told adds adds' looks looks' after after' (Err faults.Runaway) more none same h = more _ refl h
  answers_told adds adds' looks looks' after after' (Err faults.DiskFault) more none same h = (h.0, more _ refl h.1, subst (λ l. HasFailed l entry h.0) same h.2)
  answers_told adds adds' looks looks' after after' (Err (faults.Closed count)) more none same h =
      (none refl, (h.1.0, subst (λ l. HasFailed l h.1.0 count) same h.1.1))
  answers_told adds adds' looks looks' after after' (Err faults.NoMemory) more none same h =
      (none refl, subst (λ l. failed_in l ≡ None) same h.1)

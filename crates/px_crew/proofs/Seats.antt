-- What a desk's answers are of what its seats show.
use Rattle.std.proofs.Common.{◌≡◌, ℕ, List, [], ◌∷◌, ◌++◌, length, Option, Some, None, IsSome, Result, Ok, Err, refl, sym, ap, ◌∙◌, subst, append-nil, eq-eqb}
use Rattle.std.proofs.lemmas.List.{append_assoc, append_cancel_right, map-append}
use Rattle.px_event.specs.declared.entry.Entry.{Entry}
use Rattle.px_event.specs.declared.reply.Reply.{Reply}
use Rattle.px_exec.specs.Answers.{logged}
use Rattle.px_exec.specs.declared.closing.Failed.{Failed}
use Rattle.px_exec.specs.declared.fault.PostFault.{PostFault}
use Rattle.px_exec.specs.declared.fault.PostFault.TheVariants as faults
use Rattle.px_exec.specs.declared.receipt.Receipt.{Receipt}
use Rattle.px_sem.specs.Log.{Log, posted_in}
use Rattle.px_turn.specs.Histories.{stamped, items, positions}
use Rattle.px_turn.specs.declared.view.Stamped.{Stamped}
use Rattle.px_turn.proofs.Fronts.{front_trans}
use Rattle.px_turn.proofs.Positions.{positions_own}
use Rattle.px_desk.specs.Listing.{Start, log_in, failed_in, IsLegalList, HasFailed, Answers}
use Rattle.px_desk.specs.Seating.{Seating, Adds, HasMade}
use Rattle.px_desk.specs.Seating.{IsLooked as HasLooked}
use Rattle.px_desk.specs.declared.listing.Listing.{Listing}
use Rattle.px_desk.specs.declared.listing.Listing.TheVariants as listings
use Rattle.px_desk.proofs.Lists.{added_or_looked}
use Rattle.px_desk.proofs.Shown.{looked_number, added_number}
use Rattle.px_crew.specs.Board.{IsLooked, IsAnswered, IsBroken, Posts}
use Rattle.px_crew.specs.Seat.{own, entry_in, board_of, HasGoneOn}
use Rattle.px_crew.proofs.Listings.{log_in-append, log_in-items-append, failed_in-answered, failed_in-behind, clear_front, clear_before, own-append, own_yes, own_stays, clear_own}

-- ---- seats that have seen more

pub gone_none : {s : Seating} → HasMade s → HasGoneOn s s
gone_none {s} made = record { number = refl; seen = ([], sym (append-nil s.seen)); made = made }

pub gone_then : {old mid new : Seating} → HasGoneOn old mid → HasGoneOn mid new → HasGoneOn old new
gone_then {old} {mid} {new} a b = record { number = b.number ∙ a.number; seen = front_trans old.seen mid.seen new.seen a.seen b.seen; made = b.made }

-- ---- what a call does to a board

module _ (start : Start) (old new : Seating) (mine : HasMade old) (made : HasMade new) where
  -- ---- the seat has looked

  module _ (looked : HasLooked old new) where
    looked_seen : new.seen ≡ old.seen ++ looked.finds.begins.0
    looked_seen = looked.finds.begins.1

    looked_own : own new.number new.seen ≡ own old.number old.seen
    looked_own =
        ap (λ (number : ℕ). own number new.seen) (looked_number looked) ∙ ap (own old.number) looked_seen
        ∙ own_stays old.number old.seen looked.finds.begins.0
        (sym mine ∙ sym (ap (λ (s : Seating). s.made) looked.same) ∙ made ∙ ap (λ (number : ℕ). positions number new.seen) (looked_number looked)
        ∙ ap (positions old.number) looked_seen)

    pub looked_on : HasGoneOn old new
    looked_on = record { number = looked_number looked; seen = looked.finds.begins; made = made }

    pub looked_board : IsLooked (board_of start old) (board_of start new)
    looked_board = record {
      later = record {
        plan = refl;
        first = refl;
        more = log_in (items looked.finds.begins.0);
        log = ap (λ (list : List (Stamped Listing)). log_in (items list)) looked_seen
            ∙ log_in-items-append old.seen looked.finds.begins.0;
      };
      made = ap (λ (list : List Listing). posted_in (log_in list)) looked_own;
      broke = ap (λ (list : List Listing). entry_in (failed_in list)) looked_own;
    }

  -- ---- it has added an entry

  module _ (item : Listing) (adds : Adds old new item) where
    added_seen : new.seen ≡ adds.found ++ stamped (Some old.number) item ∷ []
    added_seen = ap (λ (s : Seating). s.seen) adds.same

    -- what it had made were all of its own that it found
    all_found : own old.number adds.found ≡ own old.number old.seen
    all_found =
        ap (own old.number) adds.finds.begins.1
        ∙ own_stays old.number old.seen adds.finds.begins.0
        (sym mine
        ∙ append_cancel_right old.made (positions old.number adds.found) (length adds.found ∷ [])
        (sym (ap (λ (s : Seating). s.made) adds.same) ∙ made ∙ ap (λ (number : ℕ). positions number new.seen) (added_number adds)
        ∙ ap (positions old.number) added_seen ∙ positions_own old.number adds.found item)
        ∙ ap (positions old.number) adds.finds.begins.1)

    added_own : own new.number new.seen ≡ own old.number old.seen ++ item ∷ []
    added_own =
        ap (λ (number : ℕ). own number new.seen) (added_number adds) ∙ ap (own old.number) added_seen
        ∙ own-append old.number adds.found (stamped (Some old.number) item ∷ [])
        ∙ ap (λ (list : List Listing). list ++ own old.number (stamped (Some old.number) item ∷ [])) all_found
        ∙ ap (λ (list : List Listing). own old.number old.seen ++ list)
        (own_yes old.number (stamped (Some old.number) item) [] (eq-eqb old.number old.number refl))

    added_items : items new.seen ≡ items adds.found ++ item ∷ []
    added_items = ap items added_seen ∙ map-append (λ (e : Stamped Listing). e.item) adds.found (stamped (Some old.number) item ∷ [])

    found_log : log_in (items adds.found) ≡ log_in (items old.seen) ++ log_in (items adds.finds.begins.0)
    found_log =
        ap (λ (list : List (Stamped Listing)). log_in (items list)) adds.finds.begins.1
        ∙ log_in-items-append old.seen adds.finds.begins.0

    added_log : log_in (items new.seen) ≡ (log_in (items old.seen) ++ log_in (items adds.finds.begins.0)) ++ log_in (item ∷ [])
    added_log =
        ap log_in added_items ∙ log_in-append (items adds.found) (item ∷ [])
        ∙ ap (λ (log : Log). log ++ log_in (item ∷ [])) found_log

    pub added_on : HasGoneOn old new
    added_on = record {
      number = added_number adds;
      seen = (
        adds.finds.begins.0 ++ stamped (Some old.number) item ∷ [],
        added_seen ∙ ap (λ (list : List (Stamped Listing)). list ++ stamped (Some old.number) item ∷ []) adds.finds.begins.1
            ∙ append_assoc old.seen adds.finds.begins.0 (stamped (Some old.number) item ∷ []),
      );
      made = made;
    }

  answered_board : (entry : Entry) (reply : Reply) → Adds old new (listings.Answered (logged entry reply)) → IsAnswered (board_of start old) (board_of start new) entry
  answered_board entry reply adds =
      let item = listings.Answered (logged entry reply) in
      record {
        plan = refl;
        first = refl;
        others = log_in (items adds.finds.begins.0);
        reply = reply;
        log = added_log item adds;
        made = ap (λ (list : List Listing). posted_in (log_in list)) (added_own item adds)
            ∙ ap posted_in (log_in-append (own old.number old.seen) (item ∷ []))
            ∙ map-append (λ logged. logged.entry) (log_in (own old.number old.seen)) (logged entry reply ∷ []);
        broke = ap (λ (list : List Listing). entry_in (failed_in list)) (added_own item adds)
            ∙ ap entry_in (failed_in-answered (own old.number old.seen) (logged entry reply ∷ []));
      }

  broken_board : (entry : Entry) (count : ℕ) → IsLegalList start (items new.seen) → Adds old new (listings.Failed entry count)
      → HasFailed (items new.seen) entry count → IsBroken (board_of start old) (board_of start new) entry
  broken_board entry count legal adds failed =
      let item = listings.Failed entry count in
      let clear : failed_in (items adds.found) ≡ None
      = clear_before (items adds.found) item (log_in (items new.seen)) (failed_in (items new.seen)) (sym (added_items item adds) ∙ legal.parts) in
      let unbroken : failed_in (own old.number old.seen) ≡ None
      = clear_own old.number old.seen
      (clear_front (items old.seen) (items adds.finds.begins.0)
      (ap failed_in (sym (map-append (λ (e : Stamped Listing). e.item) old.seen adds.finds.begins.0) ∙ sym (ap items adds.finds.begins.1)) ∙ clear)) in
      record {
        later = record {
          plan = refl;
          first = refl;
          more = log_in (items adds.finds.begins.0);
          log = added_log item adds ∙ append-nil (log_in (items old.seen) ++ log_in (items adds.finds.begins.0));
        };
        made = ap (λ (list : List Listing). posted_in (log_in list)) (added_own item adds)
            ∙ ap posted_in (log_in-append (own old.number old.seen) (item ∷ []) ∙ append-nil (log_in (own old.number old.seen)));
        broke = ap (λ (list : List Listing). entry_in (failed_in list)) (added_own item adds)
            ∙ ap entry_in (failed_in-behind (own old.number old.seen) (item ∷ []) unbroken);
        failed = ap entry_in failed;
      }

  some_failed : (entry : Entry) (count : ℕ) → HasFailed (items new.seen) entry count → IsSome (entry_in (failed_in (items new.seen)))
  some_failed entry count failed = subst (λ (found : Option Failed). IsSome (entry_in found)) (sym failed) refl

  pub posts_board : (entry : Entry) (answer : Result Receipt PostFault) → IsLegalList start (items new.seen)
      → Answers start (Adds old new) (HasLooked old new) (items new.seen) entry answer → Posts (board_of start old) (board_of start new) entry answer
  posts_board entry (Ok receipt) legal h = answered_board entry _ h.0
  posts_board entry (Err faults.PlanFinished) legal h = answered_board entry _ h
  posts_board entry (Err (faults.Full limit)) legal h = answered_board entry _ h.0
  posts_board entry (Err faults.Runaway) legal h = answered_board entry _ h
  posts_board entry (Err faults.DiskFault) legal h = broken_board entry h.0 legal h.1 h.2
  posts_board entry (Err (faults.Closed count)) legal h = record { looked = looked_board h.0; failed = some_failed h.1.0 count h.1.1 }
  posts_board entry (Err faults.NoMemory) legal h = (looked_board h.0, ap entry_in h.1)

  pub posts_on : (entry : Entry) (answer : Result Receipt PostFault) → Answers start (Adds old new) (HasLooked old new) (items new.seen) entry answer
      → HasGoneOn old new
  posts_on entry answer =
      added_or_looked start entry (Adds old new) (HasLooked old new) (items new.seen) answer (λ item listed. added_on item) (λ unlisted. looked_on)

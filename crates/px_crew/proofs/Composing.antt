-- The work of all threads, composed: what their workers have walked, each through its seat's share, the whole list goes
-- through.
use Rattle.std.proofs.Common.{◌≡◌, ◌≢◌, ℕ, ◌<◌, ◌≤◌, List, [], ◌∷◌, ◌++◌, map, length, get_or, take, drop, Some, None, refl, sym, ap, ◌∙◌, subst, arith}
use Rattle.std.specs.List.{All, Contains}
use Rattle.std.specs.Prelude.{◌==◌}
use Rattle.std.proofs.lemmas.List.{map-append, length-map}
use Rattle.std.proofs.lemmas.List.Elements.{All-append, filter-append, filter_map-append}
use Rattle.px_value.proofs.General.{All-unmap}
use Rattle.px_core.specs.Plan.{Site}
use Rattle.px_event.specs.declared.entry.Entry.{Entry}
use Rattle.px_exec.specs.declared.closing.Failed.{Failed}
use Rattle.px_script.specs.Follows.{GoesThrough, HasOnly}
use Rattle.px_script.specs.Order.{entry_of, posts_of, thread_entries}
use Rattle.px_script.specs.Remainder.{entries_of}
use Rattle.px_script.specs.declared.todo.Todo.{Todo}
use Rattle.px_script.specs.declared.worker.Worker.{Worker}
use Rattle.px_sem.specs.Log.{Log, posted_in}
use Rattle.px_sem.specs.declared.log.LogEntry.{LogEntry}
use Rattle.px_turn.specs.Histories.{IsFront, items, opened, positions}
use Rattle.px_turn.specs.declared.view.Stamped.{Stamped}
use Rattle.px_turn.proofs.Positions.{positions_opened, items_opened}
use Rattle.px_desk.specs.Listing.{Start, log_in, failed_in}
use Rattle.px_desk.specs.Seating.{Seating, newcomer, IsOneHistory}
use Rattle.px_desk.specs.declared.listing.Listing.{Listing}
use Rattle.px_crew.specs.Crew.{AreAt}
use Rattle.px_crew.specs.Seat.{own, entry_in, board_of, HasGoneOn}
use Rattle.px_crew.specs.Walk.{lines_between}
use Rattle.px_crew.specs.Work.{board, places_of, HaveWorked}
use Rattle.px_crew.proofs.Further.{front_and_between, walks_on}
use Rattle.px_crew.proofs.Listings.{log_in-append, log_in-items-append, failed_in-behind, failed_in-front, own-append, none_own, own_stays}
use Rattle.px_crew.proofs.Makers.{IsMadeFor, are_made_for, entries_made, only_made, failed_made}
use Rattle.px_crew.proofs.Passing.{walks_same}
use Rattle.px_crew.proofs.Standing.{place_at}
use Rattle.px_script.proofs.OwnPosts.{own_thread}
use Rattle.px_script.proofs.Walks.{walks_longer}

-- what was there at the opening carries no number
own_opened : (number : ℕ) (first : List Listing) → own number (opened first) ≡ []
own_opened number first = none_own number 0 (opened first) (positions_opened number 0 first)

-- ---- one seat, and what it shows of the whole list

module _ (start : Start) (first : List Listing) (whole later : List (Stamped Listing)) (begins : whole ≡ opened first ++ later) (old new : Seating) (number : ℕ)
    (came : old ≡ newcomer first number) (on : HasGoneOn old new) (front : IsFront new.seen whole) (made : new.made ≡ positions new.number whole) where
  its_number : new.number ≡ number
  its_number = on.number ∙ ap (λ (s : Seating). s.number) came

  -- it has seen all that carries its number
  all_own : own new.number new.seen ≡ own number later
  all_own =
      sym (ap (own new.number) front.1 ∙ own_stays new.number new.seen front.0 (sym on.made ∙ made ∙ ap (positions new.number) front.1))
      ∙ ap (λ (n : ℕ). own n whole) its_number
      ∙ ap (own number) begins
      ∙ own-append number (opened first) later
      ∙ ap (λ (list : List Listing). list ++ own number later) (own_opened number first)

  pub shown_made : (board_of start new).made ≡ posted_in (log_in (own number later))
  shown_made = ap (λ (list : List Listing). posted_in (log_in list)) all_own

  pub shown_broke : (board_of start new).broke ≡ entry_in (failed_in (own number later))
  shown_broke = ap (λ (list : List Listing). entry_in (failed_in list)) all_own

  pub shown_front : IsFront (board_of start new).log (log_in (items whole))
  shown_front = (
    log_in (items front.0),
    ap (λ (list : List (Stamped Listing)). log_in (items list)) front.1 ∙ log_in-items-append new.seen front.0,
  )

  -- at the opening it had made nothing, and shown the list as it was
  none_at_first : own old.number old.seen ≡ []
  none_at_first = ap (λ (s : Seating). own s.number s.seen) came ∙ own_opened number first

  pub first_made : (board_of start old).made ≡ []
  first_made = ap (λ (list : List Listing). posted_in (log_in list)) none_at_first

  pub first_broke : (board_of start old).broke ≡ None
  first_broke = ap (λ (list : List Listing). entry_in (failed_in list)) none_at_first

  pub first_log : (board_of start old).log ≡ log_in first
  first_log = ap (λ (s : Seating). log_in (items s.seen)) came ∙ ap log_in (items_opened first)

-- ---- the log goes on by what a thread has made

module _ (plan : List Site) (first : List Entry) (log more : Log) (todo : Todo) (from to : ℕ) (order : from ≤ to)
    (made : entries_of todo.thread (posted_in more) ≡ posts_of todo.thread (drop from (take to todo.lines))) where
  pub entries_on : entries_of todo.thread (posted_in log) ≡ posts_of todo.thread (take from todo.lines)
      → entries_of todo.thread (posted_in (log ++ more)) ≡ posts_of todo.thread (take to todo.lines)
  entries_on entries =
      ap (entries_of todo.thread) (map-append (λ logged. logged.entry) log more)
      ∙ filter-append (λ (entry : Entry). entry.thread == todo.thread) (posted_in log) (posted_in more)
      ∙ ap (λ (own : List Entry). own ++ entries_of todo.thread (posted_in more)) entries
      ∙ ap (λ (own : List Entry). posts_of todo.thread (take from todo.lines) ++ own) made
      ∙ sym (filter_map-append (entry_of todo.thread) (take from todo.lines) (drop from (take to todo.lines)))
      ∙ ap (posts_of todo.thread) (front_and_between todo.lines from to order)

-- one of a list that has a place
pub some_of : {A : Type 0} (xs : List A) (i : ℕ) → i < length xs → A
some_of [] i within = absurd (omega arith)
some_of (x ∷ xs) i within = x

-- ---- all seats

module _ {S : Type 0} (start : Start) (fits : S → Type 0) (seating : S → Seating) (threads : List Todo) (olds news : List (Worker S))
    (differ : (i j : ℕ) (d : Todo) → i < length threads → j < length threads → j ≢ i → (get_or threads i d).thread ≢ (get_or threads j d).thread)
    (same : length olds ≡ length threads) (worked : HaveWorked start fits seating threads olds news)
    (first : List Listing) (came : (i : ℕ) (e : Worker S) → i < length threads → seating (get_or olds i e).seat ≡ newcomer first i)
    (list : List Listing) (w : IsOneHistory first (map (λ worker. seating worker.seat) news) list) where
  new_same : length news ≡ length threads
  new_same = worked.same ∙ same

  -- what holds of each seat
  of_seat : (P : Seating → Type 0) → All P (map (λ worker. seating worker.seat) news) → (i : ℕ) (e : Worker S) → i < length threads → P (seating (get_or news i e).seat)
  of_seat P all i e within = All-unmap P (λ (worker : Worker S). seating worker.seat) news all i e (omega (arith, new_same))

  -- what one of them shows
  module _ (i : ℕ) (d : Todo) (e : Worker S) (within : i < length threads) where
    front_at : IsFront (seating (get_or news i e).seat).seen w.whole
    front_at = of_seat (λ s. IsFront s.seen w.whole) w.seen i e within

    made_at : (seating (get_or news i e).seat).made ≡ positions (seating (get_or news i e).seat).number w.whole
    made_at = of_seat (λ s. s.made ≡ positions s.number w.whole) w.made i e within

    -- what it made are the posts of its lines between
    pub posts_between : posted_in (log_in (own i w.later))
        ≡ posts_of (get_or threads i d).thread (drop (get_or olds i e).at (take (get_or news i e).at (get_or threads i d).lines))
    posts_between =
        let one = worked.each i d e within in
        sym (shown_made start first w.whole w.later w.begins (seating (get_or olds i e).seat) (seating (get_or news i e).seat) i (came i e within) one.on front_at made_at)
        ∙ one.walked.made
        ∙ ap (λ (made : List Entry). made ++ thread_entries (lines_between (get_or olds i e).at (get_or news i e).at (get_or threads i d)))
        (first_made start first w.whole w.later w.begins (seating (get_or olds i e).seat) (seating (get_or news i e).seat) i (came i e within) one.on front_at made_at)

    pub broke_at : (board start fits seating (get_or news i e)).broke ≡ entry_in (failed_in (own i w.later))
    broke_at = shown_broke start first w.whole w.later w.begins (seating (get_or olds i e).seat) (seating (get_or news i e).seat) i (came i e within)
        (worked.each i d e within).on front_at made_at

    pub unbroken_at : (board start fits seating (get_or olds i e)).broke ≡ None
    unbroken_at = first_broke start first w.whole w.later w.begins (seating (get_or olds i e).seat) (seating (get_or news i e).seat) i (came i e within)
        (worked.each i d e within).on front_at made_at

    pub log_at : IsFront (board start fits seating (get_or news i e)).log (log_in list)
    log_at =
        let front = shown_front start first w.whole w.later w.begins (seating (get_or olds i e).seat) (seating (get_or news i e).seat) i (came i e within)
        (worked.each i d e within).on front_at made_at in
        (front.0, ap log_in (sym w.stands) ∙ front.1)

    log_at_first : (board start fits seating (get_or olds i e)).log ≡ log_in first
    log_at_first = first_log start first w.whole w.later w.begins (seating (get_or olds i e).seat) (seating (get_or news i e).seat) i (came i e within)
        (worked.each i d e within).on front_at made_at

  -- ---- the whole list

  list_is : list ≡ first ++ items w.later
  list_is = sym w.stands ∙ ap items w.begins ∙ map-append (λ (e : Stamped Listing). e.item) (opened first) w.later ∙ ap (λ (l : List Listing). l ++ items w.later) (items_opened first)

  pub log_is : log_in list ≡ log_in first ++ log_in (items w.later)
  log_is = ap log_in list_is ∙ log_in-append first (items w.later)

  made_for : All (IsMadeFor threads) w.later
  made_for =
      are_made_for threads w.later
      (λ k e within.
      let one = w.makers k e within in
      (one.0, one.1, omega (arith, one.2, new_same, length-map news (λ (worker : Worker S). seating worker.seat))))
      (λ j d within.
      let e = some_of olds j (omega (arith, same)) in
      subst (λ (entries : List Entry). All (λ entry. entry.thread ≡ (get_or threads j d).thread) entries) (sym (posts_between j d e within))
      (own_thread (get_or threads j d).thread (drop (get_or olds j e).at (take (get_or news j e).at (get_or threads j d).lines))))

  module _ (at : AreAt start.plan start.first (log_in first) threads (places_of olds)) where
    goes_at : (i : ℕ) (d : Todo) (e : Worker S) → i < length threads → GoesThrough start.plan start.first (log_in list) (get_or threads i d) (get_or news i e).at
    goes_at i d e within =
        let todo = get_or threads i d in
        let one = worked.each i d e within in
        let was = subst (λ (place : ℕ). GoesThrough start.plan start.first (log_in first) todo place) (place_at olds i e (omega (arith, same))) (at.each i d within) in
        let front = log_at i d e within in
        record {
          walks = walks_same start.plan start.plan start.first start.first ((board start fits seating (get_or news i e)).log ++ front.0) (log_in list) todo.thread 0 _ _ refl refl (sym front.1) refl
              (walks_longer start.plan start.first (board start fits seating (get_or news i e)).log front.0 todo.thread 0 (take (get_or news i e).at todo.lines)
              (walks_on todo (get_or olds i e).at (board start fits seating (get_or olds i e)) (board start fits seating (get_or news i e)) _ one.walked
              (walks_same start.plan start.plan start.first start.first (log_in first) (board start fits seating (get_or olds i e)).log todo.thread 0 _ _ refl refl (sym (log_at_first i d e within)) refl was.walks)));
          entries = ap (λ (log : Log). entries_of todo.thread (posted_in log)) log_is
              ∙ entries_on start.plan start.first (log_in first) (log_in (items w.later)) todo (get_or olds i e).at (get_or news i e).at one.walked.further
              (entries_made threads differ w.later made_for i d within ∙ posts_between i d e within) was.entries;
        }

    -- THE WHOLE LIST goes through each thread's lines up to its worker's place, and has nothing else.
    pub composed : AreAt start.plan start.first (log_in list) threads (places_of news)
    composed = record {
      same = length-map news (λ (worker : Worker S). worker.at) ∙ new_same;
      within = λ i d within.
          let e = some_of news i (omega (arith, new_same)) in
          subst (λ (place : ℕ). place ≤ length (get_or threads i d).lines) (sym (place_at news i e (omega (arith, new_same)))) (worked.each i d e within).walked.within;
      each = λ i d within.
          let e = some_of news i (omega (arith, new_same)) in
          subst (λ (place : ℕ). GoesThrough start.plan start.first (log_in list) (get_or threads i d) place) (sym (place_at news i e (omega (arith, new_same)))) (goes_at i d e within);
      only = subst (HasOnly threads) (sym log_is)
          (All-append (λ (logged : LogEntry). (todo : Todo) × Contains threads todo × (todo.thread ≡ logged.entry.thread)) (log_in first) (log_in (items w.later)) at.only
          (only_made threads w.later made_for));
    }

  -- ---- a failed append

  module _ (clear : failed_in first ≡ None) where
    failed_is : failed_in list ≡ failed_in (items w.later)
    failed_is = ap failed_in list_is ∙ failed_in-behind first (items w.later) clear

    -- it was one of the seats'
    pub broken_one : (failed : Failed) → failed_in list ≡ Some failed → (e : (i : ℕ) → i < length threads → Worker S)
        → (i : ℕ) × ((within : i < length threads) × ((board start fits seating (get_or news i (e i within))).broke ≡ Some failed.entry))
    broken_one failed is e =
        let one = failed_made threads w.later made_for failed (sym failed_is ∙ is) in (
          one.0,
          (one.1, broke_at one.0 (record { thread = 0; lines = [] }) (e one.0 one.1) one.1 ∙ ap entry_in one.2),
        )

    -- and where a seat has seen one, it is that of the list
    pub seen_failed : (i : ℕ) (d : Todo) (e : Worker S) (failed : Failed) → i < length threads
        → failed_in (items (seating (get_or news i e).seat).seen) ≡ Some failed → failed_in list ≡ Some failed
    seen_failed i d e failed within is =
        let front = front_at i d e within in
        ap failed_in (sym w.stands ∙ ap items front.1 ∙ map-append (λ (e : Stamped Listing). e.item) (seating (get_or news i e).seat).seen front.0)
        ∙ failed_in-front (items (seating (get_or news i e).seat).seen) (items front.0) failed is

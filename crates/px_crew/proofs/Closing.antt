-- The work over one desk over an executive, from its opening to its closing.
use Rattle.std.proofs.Common.{◌≡◌, ◌≢◌, ℕ, ◌<◌, ◌≤◌, List, map, length, get_or, Option, None, sym, ap, ◌∙◌, subst, arith}
use Rattle.std.specs.List.{All, range_with_len, sum_by}
use Rattle.std.proofs.lemmas.List.Elements.{All-same}
use Rattle.std.proofs.lemmas.List.Sums.{sum-map}
use Rattle.std.proofs.lemmas.Simd.{map-map}
use Rattle.px_core.specs.Plan.{Site}
use Rattle.px_event.specs.declared.entry.Entry.{Entry}
use Rattle.px_exec.specs.Executive.{Executive, Opening, plan_of}
use Rattle.px_script.specs.declared.crew_end.CrewEnd.{CrewEnd}
use Rattle.px_script.specs.declared.todo.Todo.{Todo}
use Rattle.px_script.specs.declared.worker.Worker.{Worker}
use Rattle.px_sem.specs.Log.{Log}
use Rattle.px_sem.specs.declared.stepper.Stepper
use Rattle.px_desk.specs.Listing.{start_of, listing, log_in, failed_in}
use Rattle.px_desk.specs.Seating.{Seating, newcomer, AreAll, IsOneHistory}
use Rattle.px_desk.proofs.Lists.{log_of_listing, failed_of_listing}
use Rattle.px_desk.proofs.Dealing.{seats_count}
use Rattle.px_crew.specs.Crew.{failed_entry, AreAt, Comes}
use Rattle.px_crew.specs.Seat.{entry_in}
use Rattle.px_crew.specs.Work.{workers_of, places_of, AreReady, HaveWorked, ComesTo}
use Rattle.px_crew.proofs.Engaged.{engaged_length, engaged_places, engaged_seats, engaged_came, engaged_ready, own_still, numbers_still}
use Rattle.px_crew.proofs.Gathering.{comes_whole}
use Rattle.px_crew.proofs.Working.{places_rise}

sum_places : {S : Type 0} (workers : List (Worker S)) → sum_by (λ (place : ℕ). place) (places_of workers) ≡ sum_by (λ (w : Worker S). w.at) workers
sum_places {S} workers = sum-map (λ (w : Worker S). w.at) workers

-- what the work comes to, of other names
comes_same : (plan plan' : List Site) (first first' : List Entry) (log log' : Log) (threads : List Todo) (places places' : List ℕ) (failed failed' : Option Entry) (end : CrewEnd)
    → plan ≡ plan' → first ≡ first' → log ≡ log' → places ≡ places' → failed ≡ failed' → Comes plan first log threads places failed end → Comes plan' first' log' threads places' failed' end
comes_same plan plan' first first' log log' threads places places' failed failed' end p f l s e comes =
    subst (λ plan. Comes plan first' log' threads places' failed' end) p
    (subst (λ first. Comes plan first log' threads places' failed' end) f
    (subst (λ log. Comes plan first log threads places' failed' end) l
    (subst (λ places. Comes plan first log threads places failed' end) s
    (subst (λ failed. Comes plan first log threads places failed end) e comes))))

module _ {S D T : Type 0} (runs : Stepper.Ghosts S) (exec opened : Executive S D) (is_opened : opened ≡ exec) (unfailed : exec.failed ≡ None) (fits : T → Type 0)
    (seating : T → Seating) (threads : List Todo) (seats : List T) (places : List ℕ) (seated : map seating seats ≡ map (newcomer (listing exec)) (range_with_len 0 (length places)))
    (at : AreAt (plan_of runs exec) exec.opening.history exec.log threads places) where
  -- of the executive with which the desk was opened
  at_opened : AreAt (plan_of runs opened) opened.opening.history opened.log threads places
  at_opened = subst (λ (e : Executive S D). AreAt (plan_of runs e) e.opening.history e.log threads places) (sym is_opened) at

  seated_opened : map seating seats ≡ map (newcomer (listing opened)) (range_with_len 0 (length places))
  seated_opened = seated ∙ ap (λ (e : Executive S D). map (newcomer (listing e)) (range_with_len 0 (length places))) (sym is_opened)

  counted : length seats ≡ length places
  counted = seats_count seating (listing opened) seats (length places) seated_opened

  pub workers_count : length (workers_of seats places) ≡ length threads
  workers_count = engaged_length seats places counted ∙ counted ∙ at.same

  module _ (olds : List (Worker T)) (olds_are : olds ≡ workers_of seats places) where
    pub ready_opened : All fits seats → AreReady (start_of runs opened.opening) fits seating threads olds
    ready_opened own =
        subst (AreReady (start_of runs opened.opening) fits seating threads) (sym olds_are)
        (engaged_ready (start_of runs opened.opening) fits seating (listing opened) seats (length places) seated_opened threads places at.same at.same own at.within)

    module _ (news : List (Worker T)) (worked_on : HaveWorked (start_of runs opened.opening) fits seating threads olds news) (gathered : List (Worker T)) (gathered_are : gathered ≡ news)
        (released : List T) (are : released ≡ map (λ worker. worker.seat) gathered) where
      worked : HaveWorked (start_of runs opened.opening) fits seating threads (workers_of seats places) news
      worked = subst (λ (olds : List (Worker T)). HaveWorked (start_of runs opened.opening) fits seating threads olds news) olds_are worked_on

      released_are : released ≡ map (λ worker. worker.seat) news
      released_are = are ∙ ap (map (λ (worker : Worker T). worker.seat)) gathered_are

      pub own_closed : All fits released
      own_closed =
          All-same fits released (map (λ worker. worker.seat) news) released_are
          (own_still (start_of runs opened.opening) fits seating threads (workers_of seats places) news workers_count worked)

      numbers : map (λ seat. (seating seat).number) released ≡ map (λ seat. (seating seat).number) seats
      numbers =
          ap (map (λ (seat : T). (seating seat).number)) released_are
          ∙ map-map (λ (seat : T). (seating seat).number) (λ (worker : Worker T). worker.seat) news
          ∙ numbers_still (start_of runs opened.opening) fits seating threads (workers_of seats places) news workers_count worked
          ∙ sym (map-map (λ (seat : T). (seating seat).number) (λ (worker : Worker T). worker.seat) (workers_of seats places))
          ∙ ap (map (λ (seat : T). (seating seat).number)) (engaged_seats seats places counted)

      pub all_closed : (count : ℕ) → AreAll count (map (λ seat. (seating seat).number) seats) → AreAll count (map (λ seat. (seating seat).number) released)
      all_closed count all = subst (AreAll count) (sym numbers) all

      module _ (there : List ℕ) (written : there ≡ places_of gathered) where
        there_are : there ≡ places_of news
        there_are = written ∙ ap places_of gathered_are

        pub rises : sum_by (λ place. place) places ≤ sum_by (λ place. place) there
        rises =
            omega (
              arith,
              ap (sum_by (λ (place : ℕ). place)) there_are,
              ap (sum_by (λ (place : ℕ). place)) (engaged_places seats places counted),
              sum_places news,
              sum_places (workers_of seats places),
              places_rise (start_of runs opened.opening) fits seating threads (workers_of seats places) news workers_count worked,
            )

        pub comes_closed : (closed : Executive S D) → closed.opening ≡ opened.opening
            → ((i j : ℕ) (d : Todo) → i < length threads → j < length threads → j ≢ i → (get_or threads i d).thread ≢ (get_or threads j d).thread)
            → IsOneHistory (listing opened) (map seating released) (listing closed) → (end : CrewEnd) → ComesTo (start_of runs opened.opening) fits seating threads news end
            → Comes (plan_of runs closed) closed.opening.history closed.log threads there (failed_entry closed) end
        comes_closed closed opening differ whole end comes =
            let start = start_of runs opened.opening in
            let at_first : AreAt start.plan start.first (log_in (listing opened)) threads (places_of (workers_of seats places))
            = subst (λ (log : Log). AreAt start.plan start.first log threads (places_of (workers_of seats places))) (sym (log_of_listing opened.log opened.failed))
            (subst (AreAt start.plan start.first opened.log threads) (sym (engaged_places seats places counted)) at_opened) in
            let all : IsOneHistory (listing opened) (map (λ worker. seating worker.seat) news) (listing closed)
            = subst (λ (seats : List Seating). IsOneHistory (listing opened) seats (listing closed))
            (ap (map seating) released_are ∙ map-map seating (λ (worker : Worker T). worker.seat) news) whole in
            comes_same start.plan (plan_of runs closed) start.first closed.opening.history (log_in (listing closed)) closed.log threads (places_of news) there
            (entry_in (failed_in (listing closed))) (failed_entry closed) end
            (ap (λ (o : Opening S D). (runs.state o.stepper).nodes) (sym opening)) (ap (λ (o : Opening S D). o.history) (sym opening))
            (log_of_listing closed.log closed.failed) (sym there_are) (ap entry_in (failed_of_listing closed.log closed.failed))
            (comes_whole start fits seating threads (workers_of seats places) news differ workers_count worked (listing opened)
            (engaged_came start fits seating (listing opened) seats (length places) seated_opened threads places at.same at.same)
            (listing closed) all at_first
            (failed_of_listing opened.log opened.failed ∙ ap (λ (e : Executive S D). e.failed) is_opened ∙ unfailed) end comes)

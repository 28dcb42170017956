-- Workers, round by round.
use Rattle.std.proofs.Common.{◌≡◌, ◌≢◌, ℕ, zero, suc, ◌+◌, ◌<◌, ◌≤◌, List, [], ◌∷◌, ◌++◌, length, get_or, take, subst, inl, inr, refl, sym, ap, ◌∙◌, arith}
use Rattle.std.specs.List.{All, sum_by}
use Rattle.std.specs.Option.{option_and_then, option_to_list}
use Rattle.std.proofs.lemmas.List.Elements.{All-weaker, All-more}
use Rattle.std.proofs.lemmas.List.Sums.{sum_by-cons}
use Rattle.px_value.proofs.General.{neither}
use Rattle.px_script.specs.declared.crew_end.CrewEnd.{CrewEnd}
use Rattle.px_script.specs.declared.crew_end.CrewEnd.TheVariants as ends
use Rattle.px_script.specs.declared.stall.Stall.{Stall}
use Rattle.px_script.specs.declared.todo.Todo.{Todo}
use Rattle.px_script.specs.declared.worker.WorkEnd.{WorkEnd}
use Rattle.px_script.specs.declared.worker.WorkEnd.TheVariants as works
use Rattle.px_script.specs.declared.worker.Worker.{Worker}
use Rattle.px_desk.specs.Listing.{Start}
use Rattle.px_desk.specs.Seating.{Seating}
use Rattle.px_core.specs.Plan.{Site}
use Rattle.px_event.specs.declared.entry.Entry.{Entry}
use Rattle.px_sem.specs.Log.{Log}
use Rattle.px_crew.specs.Seat.{HasGoneOn}
use Rattle.px_crew.specs.Standstill.{wait_of, wait_at, waits_of, IsHeld, IsStandstill}
use Rattle.px_crew.specs.Work.{places_of, board, IsReady, HasWorked, AreReady, HaveWorked, AreThrough, AreHeld, IsEndOf, ComesTo}
use Rattle.px_crew.proofs.Passing.{Walking, walking_none}
use Rattle.px_crew.proofs.Seats.{gone_none, gone_then}
use Rattle.px_crew.proofs.Further.{walked_then, walking_of, held_at}

module _ {S : Type 0} (start : Start) (fits : S → Type 0) (seating : S → Seating) where
  -- a worker that has come from its old place, and goes on
  pub record HasCome (todo : Todo) (old new : Worker S) : Type 0 where
    pub own : fits new.seat
    pub on : HasGoneOn (seating old.seat) (seating new.seat)
    pub going : new.end ≡ works.Going
    pub further : old.at ≤ new.at
    pub walking : Walking todo old.at new.at (board start fits seating old) (board start fits seating new)

  pub record HaveCome (threads : List Todo) (old new : List (Worker S)) : Type 0 where
    pub same : length new ≡ length old
    pub each : (i : ℕ) (d : Todo) (e : Worker S) → i < length threads → HasCome (get_or threads i d) (get_or old i e) (get_or new i e)

  -- ---- one worker

  come_none : (todo : Todo) (worker : Worker S) → IsReady start fits seating todo worker → HasCome todo worker worker
  come_none todo worker ready = record {
    own = ready.own;
    on = gone_none ready.made;
    going = ready.going;
    further = omega arith;
    walking = walking_none todo worker.at (board start fits seating worker) ready.within;
  }

  worked_on : (todo : Todo) (old mid new : Worker S) → HasCome todo old mid → HasWorked start fits seating todo mid new → HasWorked start fits seating todo old new
  worked_on todo old mid new come worked = record {
    own = worked.own;
    on = gone_then come.on worked.on;
    end = worked.end;
    walked = walked_then todo old.at mid.at (board start fits seating old) (board start fits seating mid) (board start fits seating new) _ come.further come.walking worked.walked;
    says = worked.says;
  }

  come_on : (todo : Todo) (old new : Worker S) → HasWorked start fits seating todo old new → new.end ≡ works.Going → HasCome todo old new
  come_on todo old new worked going = record {
    own = worked.own;
    on = worked.on;
    going = going;
    further = worked.walked.further;
    walking = walking_of todo old.at (board start fits seating old) (board start fits seating new) _ worked.walked (sym worked.says ∙ going);
  }

  ready_again : (todo : Todo) (old new : Worker S) → HasCome todo old new → IsReady start fits seating todo new
  ready_again todo old new come = record { own = come.own; made = come.on.made; going = come.going; within = come.walking.within }

  -- ---- all of them

  pub none_come : (threads : List Todo) (workers : List (Worker S)) → AreReady start fits seating threads workers → HaveCome threads workers workers
  none_come threads workers ready = record { same = refl; each = λ i d e within. come_none (get_or threads i d) (get_or workers i e) (ready.each i d e within) }

  pub are_ready : (threads : List Todo) (old new : List (Worker S)) → length old ≡ length threads → HaveCome threads old new → AreReady start fits seating threads new
  are_ready threads old new same come = record {
    same = come.same ∙ same;
    each = λ i d e within. ready_again (get_or threads i d) (get_or old i e) (get_or new i e) (come.each i d e within);
  }

  pub have_worked : (threads : List Todo) (old mid new : List (Worker S)) → HaveCome threads old mid → HaveWorked start fits seating threads mid new
      → HaveWorked start fits seating threads old new
  have_worked threads old mid new come worked = record {
    same = worked.same ∙ come.same;
    each = λ i d e within. worked_on (get_or threads i d) (get_or old i e) (get_or mid i e) (get_or new i e) (come.each i d e within) (worked.each i d e within);
  }

  pub have_come : (threads : List Todo) (old new : List (Worker S)) → length old ≡ length threads → HaveWorked start fits seating threads old new
      → All (λ (w : Worker S). w.end ≡ works.Going) new → HaveCome threads old new
  have_come threads old new same worked going = record {
    same = worked.same;
    each = λ i d e within.
        come_on (get_or threads i d) (get_or old i e) (get_or new i e) (worked.each i d e within) (going i e (omega (arith, worked.same, same)));
  }

  -- ---- their places only rise

  pub places_rise : (threads : List Todo) (old new : List (Worker S)) → length old ≡ length threads → HaveWorked start fits seating threads old new
      → sum_by (λ (w : Worker S). w.at) old ≤ sum_by (λ (w : Worker S). w.at) new
  places_rise threads old new same worked =
      by threads old new same worked.same (λ i d e within. (worked.each i d e within).walked.further)
    where
      by : (threads : List Todo) (old new : List (Worker S)) → length old ≡ length threads → length new ≡ length old
          → ((i : ℕ) (d : Todo) (e : Worker S) → i < length threads → (get_or old i e).at ≤ (get_or new i e).at) → sum_by (λ (w : Worker S). w.at) old ≤ sum_by (λ (w : Worker S). w.at) new
      by threads [] new same as_long rise = omega arith
      by threads (w ∷ old) [] same as_long rise = absurd (omega arith)
      by [] (w ∷ old) (v ∷ new) same as_long rise = absurd (omega arith)
      by (todo ∷ threads) (w ∷ old) (v ∷ new) same as_long rise =
          let at : Worker S → ℕ = λ w. w.at in
          omega (
            arith,
            sum_by-cons at w old,
            sum_by-cons at v new,
            rise 0 todo w (omega arith),
            by threads old new (omega arith) (omega arith) (λ i d e within. rise (suc i) d e (omega arith)),
          )

  -- ---- the end of the rounds

  pub are_held : (threads : List Todo) (old new : List (Worker S)) → length old ≡ length threads → HaveWorked start fits seating threads old new
      → All (λ (w : Worker S). w.end ≡ works.Going) new → AreHeld start fits seating threads new
  are_held threads old new same worked going i d e within =
      let one = worked.each i d e within in
      held_at (get_or threads i d) (get_or new i e).at (board start fits seating (get_or old i e)) (board start fits seating (get_or new i e)) one.end one.walked.ends
      (sym one.says ∙ going i e (omega (arith, worked.same, same)))

  -- who stands at no wait has no line left
  no_line_left : (plan : List Site) (first : List Entry) (log : Log) (todo : Todo) (place : ℕ) (rest : List Stall) → IsHeld plan first log todo place
      → option_to_list (wait_at todo place) ++ rest ≡ [] → (place ≡ length todo.lines) × (rest ≡ [])
  no_line_left plan first log todo place rest (inl all) none = (all, (neither (option_to_list (wait_at todo place)) rest none).1)
  no_line_left plan first log todo place rest (inr (cond, (number, line), unmet)) none =
      let wait = ap (option_and_then (wait_of todo.thread)) line in
      absurd (cc)

  through_all : (threads : List Todo) (workers : List (Worker S)) → length workers ≡ length threads → AreHeld start fits seating threads workers
      → waits_of threads (places_of workers) ≡ [] → AreThrough start fits seating threads workers
  through_all [] workers same held none i d e within = absurd (omega arith)
  through_all (todo ∷ threads) [] same held none i d e within = absurd (omega arith)
  through_all (todo ∷ threads) (w ∷ workers) same held none zero d e within =
      (no_line_left start.plan start.first (board start fits seating w).log todo w.at (waits_of threads (places_of workers)) (held 0 todo w (omega arith)) none).0
  through_all (todo ∷ threads) (w ∷ workers) same held none (suc i) d e within =
      through_all threads workers (omega arith) (λ i d e within. held (suc i) d e (omega arith))
      (no_line_left start.plan start.first (board start fits seating w).log todo w.at (waits_of threads (places_of workers)) (held 0 todo w (omega arith)) none).1 i d e (omega arith)

  pub comes_still : (threads : List Todo) (workers : List (Worker S)) (end : CrewEnd) → length workers ≡ length threads
      → All (λ (w : Worker S). w.end ≡ works.Going) workers → AreHeld start fits seating threads workers
      → IsStandstill threads (places_of workers) end → ComesTo start fits seating threads workers end
  comes_still threads workers ends.Done same going held still = (going, through_all threads workers same held still)
  comes_still threads workers (ends.Stalled waits) same going held still = (going, held, still.0, still.1)
  comes_still threads workers ends.Disk same going held still = absurd still
  comes_still threads workers ends.NoMemory same going held still =
      All-weaker (λ (w : Worker S). w.end ≡ works.Going) (λ (w : Worker S). w.end ≢ works.Disk) (λ w goes ends. absurd (cc)) workers going

-- what holds of all so far, and of one more
pub all_ends : {S : Type 0} (P : WorkEnd → Type 0) (workers : List (Worker S)) (i : ℕ) (w : Worker S) (end : WorkEnd) → i < length workers → w ≡ get_or workers i w → w.end ≡ end
    → P end → All (λ (w : Worker S). P w.end) (take i workers) → All (λ (w : Worker S). P w.end) (take (i + 1) workers)
all_ends {S = S} P workers i w end within is ends here all =
    All-more (λ (w : Worker S). P w.end) workers i w within all
    (subst (λ (w : Worker S). P w.end) is (subst P (sym ends) here))

pub all_end : {S : Type 0} (workers : List (Worker S)) (end : WorkEnd) → All (λ (w : Worker S). w.end ≢ works.Disk) workers → end ≢ works.Disk
    → (end ≡ works.Going → All (λ (w : Worker S). w.end ≡ works.Going) workers) → IsEndOf workers end
all_end workers works.Going unbroken ended going = going refl
all_end workers works.Disk unbroken ended going = absurd (ended refl)
all_end workers works.NoMemory unbroken ended going = unbroken

-- What the work over one desk comes to, once its executive is there again, and how it goes on.
use Rattle.std.proofs.Common.{◌≡◌, ◌≢◌, ℕ, suc, ◌+◌, ◌<◌, ◌≤◌, List, [], ◌∷◌, ◌++◌, map, length, get_or, set, take, Option, Some, None, IsSome, inl, inr, refl, sym, ap, ◌∙◌, subst, arith}
use Rattle.std.specs.List.{All, Contains, sum_by}
use Rattle.std.specs.Option.{option_and_then, option_to_list}
use Rattle.std.proofs.lemmas.Bool.{cases_eq}
use Rattle.std.proofs.lemmas.List.{append-nil, length-set, get_or-set_same, get_or-set_other, take_more}
use Rattle.std.proofs.lemmas.Option.{none-some, same_Some, slice_get_within, get_or_from_slice_get}
use Rattle.std.proofs.lemmas.List.Elements.{Contains-get_or, filter_map-append}
use Rattle.px_value.proofs.General.{is_some_mapped, option_map_none, told_of}
use Rattle.px_core.specs.Plan.{Site}
use Rattle.px_event.specs.declared.cond.Cond.{Cond}
use Rattle.px_event.specs.declared.entry.Entry.{Entry}
use Rattle.px_event.specs.declared.event.Event.{Event}
use Rattle.px_exec.specs.declared.closing.Failed.{Failed}
use Rattle.px_script.specs.Follows.{GoesThrough, Follows, IsNextPost, AreStalled, Stops, none, through, stands}
use Rattle.px_script.specs.Fit.{IsFitScript}
use Rattle.px_script.specs.Order.{entry_of, posts_of}
use Rattle.px_script.specs.declared.script.Script.{Script}
use Rattle.px_script.proofs.Scripts.{few_threads, few_lines}
use Rattle.std.proofs.lemmas.List.Sums.{sum_by-le}
use Rattle.std.proofs.lemmas.Grind.{get_or_default_zero}
use Rattle.px_script.specs.declared.crew_end.CrewEnd.{CrewEnd}
use Rattle.px_script.specs.declared.crew_end.CrewEnd.TheVariants as ends
use Rattle.px_script.specs.declared.line.Line.{Line}
use Rattle.px_script.specs.declared.line.What.TheVariants as whats
use Rattle.px_script.specs.declared.stall.Stall.{Stall}
use Rattle.px_script.specs.declared.todo.Todo.{Todo}
use Rattle.px_script.specs.declared.worker.WorkEnd.TheVariants as works
use Rattle.px_script.specs.declared.worker.Worker.{Worker}
use Rattle.px_sem.specs.Asking.{IsMetBehind}
use Rattle.px_sem.specs.Log.{Log, accepted}
use Rattle.px_turn.specs.Histories.{items}
use Rattle.px_desk.specs.Listing.{Start, log_in, failed_in}
use Rattle.px_desk.specs.Seating.{Seating, newcomer, IsOneHistory}
use Rattle.px_desk.specs.declared.listing.Listing.{Listing}
use Rattle.px_crew.specs.Crew.{AreAt, IsWaiting, AreWaiting, IsOver, Comes}
use Rattle.px_crew.specs.Seat.{entry_in}
use Rattle.px_crew.specs.Standstill.{wait_of, wait_at, waits_of, IsWait, IsHeld}
use Rattle.px_crew.specs.Work.{board, places_of, HaveWorked, AreHeld, ComesTo}
use Rattle.px_crew.proofs.Composing.{some_of, composed, unbroken_at, broken_one, seen_failed}
use Rattle.px_crew.proofs.Further.{seen_at, next_at, going_on}
use Rattle.px_crew.proofs.Further.{unbroken_at as walk_unbroken}
use Rattle.px_crew.proofs.Passing.{walks_same}
use Rattle.px_crew.proofs.Standing.{no_wait, line_there, place_at}
use Rattle.px_script.proofs.Walks.{line_at, walks_wait}

pub follows_of : (plan : List Site) (first : List Entry) (log : Log) (threads : List Todo) (places : List ℕ) → AreAt plan first log threads places → Follows plan first log threads
follows_of plan first log threads places are = record {
  each = λ k d within. (get_or places k 0, are.each k d within);
  only = are.only;
}

-- an empty log follows all threads
pub follows_nothing : (plan : List Site) (first : List Entry) (log : Log) (threads : List Todo) → log ≡ [] → Follows plan first log threads
follows_nothing plan first log threads fresh = rw fresh (record {
  each = λ k d within. (0, record { walks = omega arith; entries = refl });
  only = λ k d within. absurd (omega (arith, within));
})

-- an entry that is there is that of a failed append
some_entry : (failed : Option Failed) → IsSome (entry_in failed) → (f : Failed) × (failed ≡ Some f)
some_entry failed some = told_of failed (is_some_mapped (λ (f : Failed). f.entry) failed ∙ some)

waits_at : (plan : List Site) (first : List Entry) (log : Log) (todo : Todo) (place : ℕ) → IsHeld plan first log todo place → IsWaiting todo place
waits_at plan first log todo place (inl all) = inl all
waits_at plan first log todo place (inr (cond, wait, unmet)) = inr (cond, wait)

module _ {S : Type 0} (start : Start) (fits : S → Type 0) (seating : S → Seating) (threads : List Todo) (olds news : List (Worker S))
    (differ : (i j : ℕ) (d : Todo) → i < length threads → j < length threads → j ≢ i → (get_or threads i d).thread ≢ (get_or threads j d).thread)
    (same : length olds ≡ length threads) (worked : HaveWorked start fits seating threads olds news)
    (first : List Listing) (came : (i : ℕ) (e : Worker S) → i < length threads → seating (get_or olds i e).seat ≡ newcomer first i)
    (list : List Listing) (w : IsOneHistory first (map (λ worker. seating worker.seat) news) list)
    (at : AreAt start.plan start.first (log_in first) threads (places_of olds)) (clear : failed_in first ≡ None) where
  one_new : (i : ℕ) → i < length threads → Worker S
  one_new i within = some_of news i (omega (arith, worked.same, same))

  are : AreAt start.plan start.first (log_in list) threads (places_of news)
  are = composed start fits seating threads olds news differ same worked first came list w at

  -- where no worker has met a failed append, there is none
  none_failed : All (λ (worker : Worker S). worker.end ≢ works.Disk) news → entry_in (failed_in list) ≡ None
  none_failed unbroken = by (failed_in list) refl
    where
      by : (found : Option Failed) → failed_in list ≡ found → entry_in (failed_in list) ≡ None
      by None is = ap entry_in is
      by (Some failed) is =
          let d : Todo = record { thread = 0; lines = [] } in
          let broken = broken_one start fits seating threads olds news differ same worked first came list w clear failed is one_new in
          let i = broken.0 in
          let within = broken.1.0 in
          let e = one_new i within in
          let one = worked.each i d e within in
          let whole = walk_unbroken (get_or threads i d) (get_or news i e).at (board start fits seating (get_or olds i e)) (board start fits seating (get_or news i e)) one.end one.walked.ends
          (λ is. unbroken i e (omega (arith, worked.same, same)) (one.says ∙ is)) in
          let was = unbroken_at start fits seating threads olds news differ same worked first came list w i d e within in
          absurd (none-some failed.entry (sym (whole ∙ was) ∙ broken.1.1))

  -- where one has, one of them has made it
  one_failed : (worker : Worker S) → Contains news worker → worker.end ≡ works.Disk → (failed : Failed) × (failed_in list ≡ Some failed)
  one_failed worker (k, within, is) broken =
      let d : Todo = record { thread = 0; lines = [] } in
      let below : k < length threads = omega (arith, within, worked.same, same) in
      let one = worked.each k d worker below in
      let seen = some_entry (failed_in (items (seating (get_or news k worker).seat).seen))
      (seen_at (get_or threads k d) (get_or news k worker).at (board start fits seating (get_or olds k worker)) (board start fits seating (get_or news k worker)) one.end one.walked.ends
      (sym one.says ∙ ap (λ (w : Worker S). w.end) is ∙ broken)) in
      (seen.0, seen_failed start fits seating threads olds news differ same worked first came list w clear k d worker seen.0 below seen.1)

  next_post : (failed : Failed) → failed_in list ≡ Some failed → IsNextPost start.plan start.first (log_in list) threads failed.entry
  next_post failed is =
      let d : Todo = record { thread = 0; lines = [] } in
      let broken = broken_one start fits seating threads olds news differ same worked first came list w clear failed is one_new in
      let i = broken.0 in
      let within = broken.1.0 in
      let e = one_new i within in
      let one = worked.each i d e within in
      let was = unbroken_at start fits seating threads olds news differ same worked first came list w i d e within in
      let next = next_at (get_or threads i d) (get_or news i e).at (board start fits seating (get_or olds i e)) (board start fits seating (get_or news i e)) one.end failed.entry
      one.walked.ends was broken.1.1 in
      record {
        todo = get_or threads i d;
        one_of = Contains-get_or threads i d within;
        thread = next.0;
        count = (get_or news i e).at;
        before = subst (λ (place : ℕ). GoesThrough start.plan start.first (log_in list) (get_or threads i d) place) (place_at news i e (omega (arith, within, worked.same, same))) (are.each i d within);
        line = next.1;
      }

  -- who is held stands at a wait, or has no line left
  waiting : AreHeld start fits seating threads news → AreWaiting threads (places_of news)
  waiting held i d within =
      let e = one_new i within in
      subst (IsWaiting (get_or threads i d)) (sym (place_at news i e (omega (arith, within, worked.same, same)))) (waits_at start.plan start.first (board start fits seating (get_or news i e)).log (get_or threads i d) (get_or news i e).at (held i d e within))

  pub comes_whole : (end : CrewEnd) → ComesTo start fits seating threads news end
      → Comes start.plan start.first (log_in list) threads (places_of news) (entry_in (failed_in list)) end
  comes_whole ends.Done comes = (
    none_failed (λ k e within is. absurd (going_on (sym (comes.0 k e within) ∙ is))),
    record {
      each = λ k d within.
          let e = one_new k within in
          subst (λ (place : ℕ). GoesThrough start.plan start.first (log_in list) (get_or threads k d) place) (place_at news k e (omega (arith, within, worked.same, same)) ∙ comes.1 k d e within) (are.each k d within);
      only = are.only;
    },
  )
  comes_whole (ends.Stalled waits) comes = (
    none_failed (λ k e within is. absurd (going_on (sym (comes.0 k e within) ∙ is))),
    are,
    waiting comes.1,
    comes.2,
    comes.3,
  )
  comes_whole ends.Disk comes =
      let failed = one_failed comes.0 comes.1 comes.2 in
      (failed.0.entry, ap entry_in failed.1, follows_of start.plan start.first (log_in list) threads (places_of news) are, next_post failed.0 failed.1)
  comes_whole ends.NoMemory comes = (none_failed comes, follows_of start.plan start.first (log_in list) threads (places_of news) are)

-- ---- where none of them is met by now

module _ (plan : List Site) (first : List Entry) (log : Log) where
  -- a thread that goes no further adds its wait, if it has one
  stops_at : (todo : Todo) (place : ℕ) (threads : List Todo) (stalls : List Stall) → GoesThrough plan first log todo place → IsHeld plan first log todo place
      → Stops plan first log threads stalls → Stops plan first log (todo ∷ threads) (option_to_list (wait_at todo place) ++ stalls)
  stops_at todo place threads stalls goes (inl all) rest =
      subst (λ (wait : Option Stall). Stops plan first log (todo ∷ threads) (option_to_list wait ++ stalls)) (sym (no_wait todo place (omega arith)))
      (through todo threads stalls (subst (λ (place : ℕ). GoesThrough plan first log todo place) all goes) rest)
  stops_at todo place threads stalls goes (inr (cond, (number, line), unmet)) rest =
      let stall : Stall = record { thread = todo.thread; line = number; cond = cond } in
      subst (λ (wait : Option Stall). Stops plan first log (todo ∷ threads) (option_to_list wait ++ stalls)) (sym (ap (option_and_then (wait_of todo.thread)) line))
      (stands todo threads stall stalls (record { count = place; before = goes; thread = refl; line = line; unmet = unmet }) rest)

  stops_of : (threads : List Todo) (places : List ℕ) → length places ≡ length threads
      → ((i : ℕ) (d : Todo) → i < length threads → GoesThrough plan first log (get_or threads i d) (get_or places i 0))
      → ((i : ℕ) (d : Todo) → i < length threads → IsHeld plan first log (get_or threads i d) (get_or places i 0))
      → Stops plan first log threads (waits_of threads places)
  stops_of [] places same goes held = none
  stops_of (todo ∷ threads) [] same goes held = absurd (omega arith)
  stops_of (todo ∷ threads) (place ∷ places) same goes held =
      stops_at todo place threads (waits_of threads places) (goes 0 todo (omega arith)) (held 0 todo (omega arith))
      (stops_of threads places (omega arith) (λ i d within. goes (suc i) d (omega arith)) (λ i d within. held (suc i) d (omega arith)))

  pub stalled : (threads : List Todo) (places : List ℕ) (waits : List Stall) → AreAt plan first log threads places
      → ((i : ℕ) (d : Todo) → i < length threads → IsHeld plan first log (get_or threads i d) (get_or places i 0))
      → waits ≡ waits_of threads places → waits ≢ [] → AreStalled plan first log threads waits
  stalled threads places waits are held these some = record {
    stops = subst (Stops plan first log threads) (sym these) (stops_of threads places are.same are.each held);
    some_left = some;
    follows = follows_of plan first log threads places are;
  }

  -- ---- where one is, its thread goes on behind it

  passes_wait : (todo : Todo) (place : ℕ) (cond : Cond) → GoesThrough plan first log todo place → IsWait todo place cond → IsMetBehind plan (first ++ accepted log) cond
      → GoesThrough plan first log todo (place + 1)
  passes_wait todo place cond goes (number, line) met =
      let wait = line_at number (whats.Wait cond) in
      let front : take (place + 1) todo.lines ≡ take place todo.lines ++ wait ∷ []
      = take_more todo.lines place wait (slice_get_within todo.lines place wait line)
      ∙ ap (λ (l : Line). take place todo.lines ++ l ∷ []) (get_or_from_slice_get todo.lines place wait wait line) in
      let whole = append-nil log in
      record {
        walks = walks_same plan plan first first (log ++ []) log todo.thread 0 (take place todo.lines ++ wait ∷ []) (take (place + 1) todo.lines) refl refl whole (sym front)
            (walks_wait plan first log [] todo.thread 0 (take place todo.lines) number cond goes.walks
            (subst (λ (log : Log). IsMetBehind plan (first ++ accepted log) cond) (sym whole) met));
        entries = goes.entries
            ∙ sym (ap (posts_of todo.thread) front ∙ filter_map-append (entry_of todo.thread) (take place todo.lines) (wait ∷ []) ∙ append-nil _);
      }

  pub goes_on : (threads : List Todo) (places : List ℕ) (i : ℕ) → AreAt plan first log threads places → i < length threads
      → ((d : Todo) → IsOver plan first log (get_or threads i d) (get_or places i 0)) → AreAt plan first log threads (set places i (get_or places i 0 + 1))
  goes_on threads places i are one over = record {
    same = length-set places i (get_or places i 0 + 1) ∙ are.same;
    within = each_of (λ (todo : Todo) (place : ℕ). place ≤ length todo.lines)
        (λ d. omega (arith, slice_get_within (get_or threads i d).lines (get_or places i 0) _ (over d).1.1)) are.within;
    each = each_of (GoesThrough plan first log) (λ d. passes_wait (get_or threads i d) (get_or places i 0) (over d).0 (are.each i d one) (over d).1 (over d).2) are.each;
    only = are.only;
  }
    where
      each_of : (P : Todo → ℕ → Type 0) → ((d : Todo) → P (get_or threads i d) (get_or places i 0 + 1))
          → ((j : ℕ) (d : Todo) → j < length threads → P (get_or threads j d) (get_or places j 0))
          → (j : ℕ) (d : Todo) → j < length threads → P (get_or threads j d) (get_or (set places i (get_or places i 0 + 1)) j 0)
      each_of P here others j d within = elim (cases_eq j i) [
        | inl same ↦
            subst (λ (k : ℕ). P (get_or threads k d) (get_or (set places i (get_or places i 0 + 1)) k 0)) (sym same)
            (subst (P (get_or threads i d)) (sym (get_or-set_same places i (get_or places i 0 + 1) 0 (omega (arith, are.same, one)))) (here d))
        | inr differ ↦ subst (P (get_or threads j d)) (sym (get_or-set_other places i j (get_or places i 0 + 1) 0 differ)) (others j d within)
      ]

-- ---- the line at a place, as it was read

pub wait_line : (todo : Todo) (lines : List Line) (at : ℕ) (line : Line) (cond : Cond) → lines ≡ todo.lines → at < length lines → line ≡ get_or lines at line
    → line.what ≡ whats.Wait cond → IsWait todo at cond
wait_line todo lines at line cond same within is kind = (
  line.number,
  line_there todo lines at line (whats.Wait cond) same within is kind,
)

post_or_wait : (number other : ℕ) (event : Event) (cond : Cond) → ◌≡◌ {A = Option Line} (Some (line_at number (whats.Post event))) (Some (line_at other (whats.Wait cond))) → ⊥
post_or_wait number other event cond is = no_post (same_Some (line_at number (whats.Post event)) (line_at other (whats.Wait cond)) is)
  where
    no_post : line_at number (whats.Post event) ≡ line_at other (whats.Wait cond) → ⊥
    no_post same = unlike (ap (λ (line : Line). line.what) same)
      where
        unlike : whats.Post event ≡ whats.Wait cond → ⊥
        unlike is = cc

pub post_line : (plan : List Site) (first : List Entry) (log : Log) (todo : Todo) (lines : List Line) (at : ℕ) (line : Line) (event : Event) → lines ≡ todo.lines → at < length lines
    → line ≡ get_or lines at line → line.what ≡ whats.Post event → IsWaiting todo at → IsHeld plan first log todo at
post_line plan first log todo lines at line event same within is kind (inl all) = inl all
post_line plan first log todo lines at line event same within is kind (inr (cond, (number, wait))) =
    absurd (post_or_wait line.number number event cond
    (sym (line_there todo lines at line (whats.Post event) same within is kind) ∙ wait))

-- a wait that is over is one of the lines
pub over_within : (plan : List Site) (first : List Entry) (log : Log) (todo : Todo) (place : ℕ) → IsOver plan first log todo place → place < length todo.lines
over_within plan first log todo place over = slice_get_within todo.lines place (line_at over.1.0 (whats.Wait over.0)) over.1.1

-- no entry of a failed append, no failed append
pub unfailed : (failed : Option Failed) → entry_in failed ≡ None → failed ≡ None
unfailed failed clear = option_map_none (λ (f : Failed). f.entry) failed clear

-- places are at most as many as lines
pub places_within : (plan : List Site) (first : List Entry) (log : Log) (script : Script) (places : List ℕ) → IsFitScript script → AreAt plan first log script.threads places
    → sum_by (λ place. place) places ≤ 800000
places_within plan first log script places fit are =
    omega (
      arith,
      few_threads script fit,
      are.same,
      sum_by-le (λ (place : ℕ). place) 100000 places
          (λ k d within.
          let t : Todo = record { thread = 0; lines = [] } in
          omega (arith, get_or_default_zero places k d within, are.within k t (omega (arith, within, are.same)), few_lines script k t fit (omega (arith, within, are.same)))),
    )

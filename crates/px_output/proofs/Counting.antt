-- The micro steps of a history, counted event by event.
use Rattle.std.proofs.Common.{◌≡◌, ℕ, ◌+◌, ◌*◌, ◌≤◌, List, [], ◌∷◌, Some, IsSome, drop, length, refl, ap, subst, ◌∙◌, sym, arith, ℤ}
use Rattle.std.proofs.lemmas.List.{drop_all}
use Rattle.px_core.specs.Plan.{Site}
use Rattle.px_event.specs.declared.entry.Entry.{Entry}
use Rattle.px_event.specs.declared.event.Event.{Event}
use Rattle.px_sem.specs.World.{World}
use Rattle.px_sem.specs.Log.{HasRun, events_of}
use Rattle.px_sem.specs.Run.{settled, posted, settled_world, run_on, run}
use Rattle.px_sem.specs.Stepper.{State, fresh, settled_state}
use Rattle.px_output.specs.Summary.{steps_in, steps_on, steps_of, sum_in, sum_behind}
use Rattle.px_output.proofs.Telling.{IsNext, run_on_event, fresh_starts, begun_nodes, posted_is}

no_steps : (plan : List Site) (world : World) → steps_on plan (Some world) [] ≡ 0
unfolding steps_on
no_steps plan world = refl

more_steps : (plan : List Site) (world to : World) (count : ℕ) (event : Event) (events : List Event) → posted plan world event ≡ Some (to, count)
    → steps_on plan (Some world) (event ∷ events) ≡ count + steps_on plan (Some to) events
unfolding steps_on
more_steps plan world to count event events is = ap (λ o. steps_in o + steps_on plan (settled_world o) events) is

-- so many events of a history are counted, and in which world the stepper is then
pub record IsCounted (plan : List Site) (history : List Entry) (position : ℕ) (now : State) (steps : ℕ) : Type 0 where
  pub left : steps + steps_on plan (Some now.world) (events_of (drop position history)) ≡ steps_of plan (events_of history)
  pub runs : IsSome (run_on plan (Some now.world) (events_of (drop position history)))
  pub rest : now ≡ settled_state plan now.world
  pub few : steps ≤ 100000 * (position + 1)

-- after the start
pub counted_at_start : (plan : List Site) (history : List Entry) (from now : State) (count : ℕ) → from ≡ fresh plan
    → settled from.nodes from.world ≡ Some (now.world, count) → now ≡ settled_state from.nodes now.world → count ≤ 100000
    → IsSome (run plan (events_of history)) → IsCounted plan history 0 now count
counted_at_start plan history from now count f s rests few some = record {
  left = sym (ap (λ o. steps_in o + steps_on plan (settled_world o) (events_of history)) (fresh_starts plan from (now.world, count) f s));
  runs = subst (λ o. IsSome (run_on plan (settled_world o) (events_of history))) (fresh_starts plan from (now.world, count) f s) some;
  rest = rw f at rests;
  few = omega (arith, few);
}

module _ (plan : List Site) (history : List Entry) (position : ℕ) (now begun : State) (entry : Entry) (steps : ℕ)
    (counted : IsCounted plan history position now steps) (next : IsNext plan history position now begun entry) where
  abbrev behind : List Event
  behind = events_of (drop (position + 1) history)

  here : IsSome (run_on plan (Some now.world) (entry.event ∷ behind))
  here = subst (λ entries. IsSome (run_on plan (Some now.world) (events_of entries))) next.behind counted.runs

  -- after one event more
  pub counted_more : (after : State) (count : ℕ) → settled begun.nodes begun.world ≡ Some (after.world, count)
      → after ≡ settled_state begun.nodes after.world → count ≤ 100000 → IsCounted plan history (position + 1) after (steps + count)
  counted_more after count s rests few = record {
    left = omega (arith, is_left);
    runs = subst (λ o. IsSome o) (run_on_event plan now.world after.world count entry.event behind at) here;
    rest = subst (λ nodes. after ≡ settled_state nodes after.world) (begun_nodes plan history position now begun entry next) rests;
    few = omega (arith, few, counted.few);
  }
    where
      at : posted plan now.world entry.event ≡ Some (after.world, count)
      at = sym (posted_is plan history position now begun entry next) ∙ s

      is_left : steps + (count + steps_on plan (Some after.world) behind) ≡ steps_of plan (events_of history)
      is_left =
          ap (λ n. steps + n) (sym (more_steps plan now.world after.world count entry.event behind at))
          ∙ ap (λ entries. steps + steps_on plan (Some now.world) (events_of entries)) (sym next.behind) ∙ counted.left

pub counted_to_end : (plan : List Site) (history : List Entry) (position : ℕ) (now : State) (steps : ℕ) → IsCounted plan history position now steps
    → length history ≤ position → steps ≡ steps_of plan (events_of history)
counted_to_end plan history position now steps counted end =
    let none : drop position history ≡ [] = drop_all position history end in
    let left : steps + 0 ≡ steps_of plan (events_of history) =
    ap (λ n. steps + n) (sym (no_steps plan now.world))
    ∙ ap (λ entries. steps + steps_on plan (Some now.world) (events_of entries)) (sym none) ∙ counted.left in
    omega (arith, left)

-- ---- what the stepper is behind the history

pub sum_is : (plan : List Site) (history : List Entry) (now : State) (sum : ℤ) → HasRun plan history now → sum ≡ sum_in now.nodes now.world
    → sum ≡ sum_behind plan (events_of history)
sum_is plan history now sum (runs, rests) is =
    rw runs (is ∙ ap (λ nodes. sum_in nodes now.world) (ap (λ (s : State). s.nodes) rests))

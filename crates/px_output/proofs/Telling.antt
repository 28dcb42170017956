-- The trace of a history on its way to the sink.
use Rattle.std.proofs.Common.{◌≡◌, ℕ, ◌+◌, ◌≤◌, List, [], ◌∷◌, ◌++◌, Option, Some, None, IsSome, drop, length, refl, ap, subst, ◌∙◌, sym, add-one, append-nil, append_assoc}
use Rattle.std.proofs.lemmas.List.{drop_all}
use Rattle.px_core.specs.Plan.{Site}
use Rattle.px_event.specs.declared.entry.Entry.{Entry}
use Rattle.px_event.specs.declared.event.Event.{Event}
use Rattle.px_sem.specs.World.{World, initial_world}
use Rattle.px_sem.specs.Events.{take as taken}
use Rattle.px_sem.specs.Log.{events_of}
use Rattle.px_sem.specs.Run.{settled, started, posted, settled_world, run_on, run}
use Rattle.px_sem.specs.Stepper.{State, fresh, settled_state, with_event}
use Rattle.px_sem.specs.Text.{start_text, heading_text, settled_text, events_trace, trace}
use Rattle.px_sem.proofs.Logs.{run_on_none}
use Rattle.px_output.specs.Printing.{Buffers}
use Rattle.px_output.specs.View.{View, OnlyPrints}
use Rattle.px_output.proofs.Printed.{goes_on, only_more}

-- ---- a run that exists has settled before

run_settles : (plan : List Site) (o : Option (World × ℕ)) (events : List Event)
    → IsSome (run_on plan (settled_world o) events) → IsSome o
unfolding run_on
run_settles plan None events some = some
run_settles plan (Some found) events some = refl

pub run_starts : (plan : List Site) (events : List Event) → IsSome (run plan events) → IsSome (started plan)
run_starts plan events some = run_settles plan (started plan) events some

event_settles : (plan : List Site) (world : World) (event : Event) (events : List Event)
    → IsSome (run_on plan (Some world) (event ∷ events)) → IsSome (posted plan world event)
unfolding run_on
event_settles plan world event events some = run_settles plan (posted plan world event) events some

pub run_on_event : (plan : List Site) (world to : World) (count : ℕ) (event : Event) (events : List Event) → posted plan world event ≡ Some (to, count)
    → run_on plan (Some world) (event ∷ events) ≡ run_on plan (Some to) events
unfolding run_on
run_on_event plan world to count event events is = ap (λ o. run_on plan (settled_world o) events) is

-- ---- a history

-- So many events of a history are told of its trace, and in which world the stepper is then.
pub record IsTold (plan : List Site) (history : List Entry) (position : ℕ) (now : State) (old : View) (p : List ℕ) (new : View) (q : List ℕ) : Type 0 where
  pub told : List ℕ
  pub buffers : Buffers old p new q told
  pub only : OnlyPrints old new
  pub left : trace plan history ≡ told ++ events_trace plan (position + 1) (Some now.world) (drop position history)
  pub runs : run_on plan (Some now.world) (events_of (drop position history)) ≡ run plan (events_of history)
  pub rest : now ≡ settled_state plan now.world

-- the trace: the start, and then its events
pub start_is : (plan : List Site) (history : List Entry)
    → trace plan history ≡ start_text ++ (settled_text plan (initial_world plan) ++ events_trace plan 1 (settled_world (started plan)) history)
start_is plan history = refl

-- what settles from a fresh state starts
pub fresh_starts : (plan : List Site) (from : State) (found : World × ℕ) → from ≡ fresh plan → settled from.nodes from.world ≡ Some found → started plan ≡ Some found
fresh_starts plan from found f s = subst (λ (x : State). settled x.nodes x.world ≡ Some found) f s

-- the stepper has settled in a world
abbrev pub Settles : State → State → Type 0
Settles from now = ((count : ℕ) × (settled from.nodes from.world ≡ Some (now.world, count))) × (now ≡ settled_state from.nodes now.world)

-- after the start
pub told_at_start : (plan : List Site) (history : List Entry) (from now : State) (old mid new : View) (p q r : List ℕ)
    → from ≡ fresh plan → Buffers old p mid q start_text → OnlyPrints old mid → Settles from now
    → Buffers mid q new r (settled_text from.nodes from.world) → OnlyPrints mid new → IsTold plan history 0 now old p new r
told_at_start plan history from now old mid new p q r f heads one ((count, s), rests) buffers two = record {
  told = start_text ++ settled_text plan (initial_world plan);
  buffers = goes_on old mid new p q r start_text (settled_text plan (initial_world plan)) heads (rw f at buffers);
  only = only_more old mid new one two;
  left = sym (append_assoc start_text (settled_text plan (initial_world plan)) (events_trace plan 1 (settled_world (started plan)) history))
      ∙ ap (λ o. (start_text ++ settled_text plan (initial_world plan)) ++ events_trace plan 1 (settled_world o) history)
      (fresh_starts plan from (now.world, count) f s);
  runs = sym (ap (λ o. run_on plan (settled_world o) (events_of history)) (fresh_starts plan from (now.world, count) f s));
  rest = rw f at rests;
}

-- an entry is the next of the history, and its event was begun
pub record IsNext (plan : List Site) (history : List Entry) (position : ℕ) (now begun : State) (entry : Entry) : Type 0 where
  pub behind : drop position history ≡ entry ∷ drop (position + 1) history
  pub rest : now ≡ settled_state plan now.world
  pub begins : begun ≡ with_event now entry.event

pub begun_nodes : (plan : List Site) (history : List Entry) (position : ℕ) (now begun : State) (entry : Entry) → IsNext plan history position now begun entry
    → begun.nodes ≡ plan
begun_nodes plan history position now begun entry n = ap (λ (s : State). s.nodes) n.begins ∙ ap (λ (s : State). s.nodes) n.rest

begun_world : (plan : List Site) (history : List Entry) (position : ℕ) (now begun : State) (entry : Entry) → IsNext plan history position now begun entry
    → begun.world ≡ taken plan now.world entry.event
begun_world plan history position now begun entry n =
    ap (λ (s : State). s.world) n.begins ∙ ap (λ (s : State). taken s.nodes now.world entry.event) n.rest

-- the event settles as it is posted
pub posted_is : (plan : List Site) (history : List Entry) (position : ℕ) (now begun : State) (entry : Entry) → IsNext plan history position now begun entry
    → settled begun.nodes begun.world ≡ posted plan now.world entry.event
posted_is plan history position now begun entry n =
    ap (λ nodes. settled nodes begun.world) (begun_nodes plan history position now begun entry n)
    ∙ ap (settled plan) (begun_world plan history position now begun entry n)

text_is : (plan : List Site) (history : List Entry) (position : ℕ) (now begun : State) (entry : Entry) → IsNext plan history position now begun entry
    → settled_text begun.nodes begun.world ≡ settled_text plan (taken plan now.world entry.event)
text_is plan history position now begun entry n =
    ap (λ nodes. settled_text nodes begun.world) (begun_nodes plan history position now begun entry n)
    ∙ ap (settled_text plan) (begun_world plan history position now begun entry n)

-- the next event settles where the events that are left run
pub left_settles : (plan : List Site) (history : List Entry) (position : ℕ) (now begun : State) (entry : Entry)
    → IsNext plan history position now begun entry → IsSome (run_on plan (Some now.world) (events_of (drop position history)))
    → IsSome (settled begun.nodes begun.world)
left_settles plan history position now begun entry n some =
    let first_one : IsSome (run_on plan (Some now.world) (entry.event ∷ events_of (drop (position + 1) history))) =
    subst (λ entries. IsSome (run_on plan (Some now.world) (events_of entries))) n.behind some in
    subst (λ o. IsSome o) (sym (posted_is plan history position now begun entry n))
    (event_settles plan now.world entry.event (events_of (drop (position + 1) history)) first_one)

pub next_settles : (plan : List Site) (history : List Entry) (position : ℕ) (now begun : State) (old new : View) (p q : List ℕ) (entry : Entry)
    → IsTold plan history position now old p new q → IsNext plan history position now begun entry
    → IsSome (run plan (events_of history)) → IsSome (settled begun.nodes begun.world)
next_settles plan history position now begun old new p q entry t n some =
    left_settles plan history position now begun entry n (subst (λ o. IsSome o) (sym t.runs) some)

-- what of the trace is behind what was told: the heading of the next event, its steps, and the events after it
pub event_left : (plan : List Site) (history : List Entry) (position : ℕ) (now begun : State) (old new : View) (p q : List ℕ) (entry : Entry)
    (t : IsTold plan history position now old p new q) → IsNext plan history position now begun entry
    → trace plan history
    ≡ t.told ++ (heading_text (position + 1) entry ++ (settled_text begun.nodes begun.world
    ++ events_trace plan (position + 1 + 1) (settled_world (posted plan now.world entry.event)) (drop (position + 1) history)))
event_left plan history position now begun old new p q entry t n =
    t.left
    ∙ ap (λ entries. t.told ++ events_trace plan (position + 1) (Some now.world) entries) n.behind
    ∙ ap (λ k. t.told ++ (heading_text (position + 1) entry ++ (settled_text plan (taken plan now.world entry.event)
    ++ events_trace plan k (settled_world (posted plan now.world entry.event)) (drop (position + 1) history)))) (sym (add-one (position + 1)))
    ∙ ap (λ text. t.told ++ (heading_text (position + 1) entry ++ (text
    ++ events_trace plan (position + 1 + 1) (settled_world (posted plan now.world entry.event)) (drop (position + 1) history))))
    (sym (text_is plan history position now begun entry n))

-- after one event more
pub told_more : (plan : List Site) (history : List Entry) (position : ℕ) (now begun next : State) (old mid headed new : View) (p q r s : List ℕ) (entry : Entry)
    → IsTold plan history position now old p mid q → IsNext plan history position now begun entry
    → Buffers mid q headed r (heading_text (position + 1) entry) → OnlyPrints mid headed → Settles begun next
    → Buffers headed r new s (settled_text begun.nodes begun.world) → OnlyPrints headed new
    → IsTold plan history (position + 1) next old p new s
told_more plan history position now begun next old mid headed new p q r s entry t n heads one ((count, is), rests) buffers two = record {
  told = t.told ++ (heading ++ steps);
  buffers = goes_on old mid new p q s t.told (heading ++ steps) t.buffers (goes_on mid headed new q r s heading steps heads buffers);
  only = only_more old mid new t.only (only_more mid headed new one two);
  left = event_left plan history position now begun old mid p q entry t n
      ∙ ap (λ o. t.told ++ (heading ++ (steps ++ events_trace plan (position + 1 + 1) (settled_world o) behind))) at
      ∙ ap (λ text. t.told ++ text) (sym (append_assoc heading steps later))
      ∙ sym (append_assoc t.told (heading ++ steps) later);
  runs = sym (run_on_event plan now.world next.world count entry.event (events_of behind) at)
      ∙ sym (ap (λ entries. run_on plan (Some now.world) (events_of entries)) n.behind)
      ∙ t.runs;
  rest = rests ∙ ap (λ nodes. settled_state nodes next.world) (begun_nodes plan history position now begun entry n);
}
  where
    heading : List ℕ
    heading = heading_text (position + 1) entry

    steps : List ℕ
    steps = settled_text begun.nodes begun.world

    behind : List Entry
    behind = drop (position + 1) history

    later : List ℕ
    later = events_trace plan (position + 1 + 1) (Some next.world) behind

    at : posted plan now.world entry.event ≡ Some (next.world, count)
    at = sym (posted_is plan history position now begun entry n) ∙ is

-- the end of the history
pub told_to_end : (plan : List Site) (history : List Entry) (position : ℕ) (now : State) (old new : View) (p q : List ℕ)
    → IsTold plan history position now old p new q → length history ≤ position
    → (run plan (events_of history) ≡ Some now.world) × Buffers old p new q (trace plan history)
told_to_end plan history position now old new p q t end =
    let none : drop position history ≡ [] = drop_all position history end in (
      sym t.runs ∙ ap (λ entries. run_on plan (Some now.world) (events_of entries)) none ∙ run_on_none plan (Some now.world),
      rw (t.left ∙ ap (λ entries. t.told ++ events_trace plan (position + 1) (Some now.world) entries) none ∙ append-nil t.told) t.buffers,
    )

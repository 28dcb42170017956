-- The run over the front of a history, entry by entry.
use Rattle.std.proofs.Common.{◌≡◌, ◌≤◌, ◌<◌, ◌+◌, ℕ, List, [], ◌∷◌, ◌++◌, Some, None, length, take, drop, sym, ◌∙◌, ap, arith, append_assoc}
use Rattle.std.specs.Prelude.{slice_index_or}
use Rattle.std.proofs.lemmas.List.{length-take, map-append, take_all, take_more, take-append-drop}
use Rattle.px_value.proofs.General.{is_some_at}
use Rattle.px_core.specs.Plan.{Site}
use Rattle.px_event.specs.declared.entry.Entry.{Entry}
use Rattle.px_sem.specs.Log.{events_of}
use Rattle.px_sem.specs.Run.{run, posted, settled_world}
use Rattle.px_sem.specs.Stepper.{State, Nothing, settled_state}
use Rattle.px_sem.specs.World.{World}
use Rattle.px_sem.proofs.Logs.{run_more}
use Rattle.px_exec.specs.Opening.{RunsAwayAt}

-- so many entries of the history were taken, and the last has settled
pub record HasRun (plan : List Site) (history : List Entry) (at : ℕ) (now : State) : Type 0 where
  pub rest : now ≡ settled_state plan now.world
  pub runs : run plan (events_of (take at history)) ≡ Some now.world

pub ran_none : (now : State) (history : List Entry) → now.pending ≡ Nothing → run now.nodes [] ≡ Some now.world → HasRun now.nodes history 0 now
ran_none now history pending runs = record {
  rest = ap (λ pending. let s : State = record { nodes = now.nodes; world = now.world; pending = pending } in s) pending;
  runs = runs;
}

pub ran_all : (plan : List Site) (history : List Entry) (at : ℕ) (now : State) → HasRun plan history at now → length history ≤ at
    → run plan (events_of history) ≡ Some now.world
ran_all plan history at now ran all = sym (ap (λ h. run plan (events_of h)) (take_all at history all)) ∙ ran.runs

module _ (plan : List Site) (history : List Entry) (at : ℕ) (now : State) (entry : Entry) (ran : HasRun plan history at now)
    (within : at < length history) (is : entry ≡ slice_index_or history at entry) where
  front_more : take (at + 1) history ≡ take at history ++ entry ∷ []
  front_more = take_more history at entry within ∙ ap (λ e. take at history ++ e ∷ []) (sym is)

  nodes_are : now.nodes ≡ plan
  nodes_are = ap (λ (s : State). s.nodes) ran.rest

  next_run : run plan (events_of (take at history ++ entry ∷ [])) ≡ settled_world (posted now.nodes now.world entry.event)
  next_run =
      ap (run plan) (map-append (λ e. e.event) (take at history) (entry ∷ []))
      ∙ run_more plan (events_of (take at history)) entry.event now.world ran.runs
      ∙ ap (λ nodes. settled_world (posted nodes now.world entry.event)) (sym nodes_are)

  pub ran_more : (next : State) (world : World) (k : ℕ) → posted now.nodes now.world entry.event ≡ Some (world, k) → next ≡ settled_state now.nodes world
      → HasRun plan history (at + 1) next
  ran_more next world k settles moved = record {
    rest = moved ∙ ap (λ nodes. settled_state nodes world) nodes_are ∙ ap (settled_state plan) (sym (ap (λ (s : State). s.world) moved));
    runs = ap (λ h. run plan (events_of h)) front_more ∙ next_run ∙ ap settled_world settles ∙ ap Some (sym (ap (λ (s : State). s.world) moved));
  }

  pub runs_away_next : posted now.nodes now.world entry.event ≡ None → RunsAwayAt plan history (at + 1)
  runs_away_next none = record {
    before = take at history;
    entry = entry;
    rest = drop (at + 1) history;
    parts = sym (take-append-drop (at + 1) history) ∙ ap (λ front. front ++ drop (at + 1) history) front_more
        ∙ append_assoc (take at history) (entry ∷ []) (drop (at + 1) history);
    place = omega (arith, length-take at history);
    settles = is_some_at (run plan (events_of (take at history))) now.world ran.runs;
    runs_away = next_run ∙ ap settled_world none;
  }

-- Runs: micro steps until the world is quiet.
use Rattle.std.specs.Prelude.{◌≡◌, ℕ, zero, suc, ◌+◌, ◌<◌, ◌≤◌, Bool, true, false, List, [], ◌∷◌, Option, Some, None}
use Rattle.std.specs.List.{find, range_with_len}
use Rattle.std.specs.Option.{option_map, unwrap_or}
use Rattle.px_core.specs.Plan.{Site}
use Rattle.px_sem.specs.World.{World, initial_world}
use Rattle.px_event.specs.declared.event.Event.{Event}
use Rattle.px_sem.specs.Conflicts.{is_quiet}
use Rattle.px_sem.specs.Events.{take}
use Rattle.px_sem.specs.Step.{micro}

-- the most micro steps that one event may take
abbrev pub step_limit : ℕ
step_limit = 100000

-- the world after k micro steps
unfoldable pub after_steps : List Site → World → ℕ → World
after_steps plan world zero = world
after_steps plan world (suc k) = micro plan (after_steps plan world k)

-- whether the world after k micro steps is quiet
abbrev pub is_quiet_after : List Site → World → ℕ → Bool
is_quiet_after plan world k = is_quiet plan (after_steps plan world k)

-- the first of the numbers from 0 to a bound that passes a test
unfoldable pub least : (ℕ → Bool) → ℕ → Option ℕ
least test bound = find test (range_with_len 0 (bound + 1))

-- what such a number is
pub record IsLeast (test : ℕ → Bool) (bound k : ℕ) : Type 0 where
  pub passes : test k ≡ true
  pub none_below : (j : ℕ) → j < k → test j ≡ false
  pub within : k ≤ bound

-- how many micro steps a world takes until it is quiet, within the limit; none where it runs away
abbrev pub settling_count : List Site → World → Option ℕ
settling_count plan world = least (is_quiet_after plan world) step_limit

-- the same, where it settles
abbrev pub steps_until_quiet : List Site → World → ℕ
steps_until_quiet plan world = unwrap_or (settling_count plan world) 0

-- the quiet world that a world settles into, and the number of its micro steps: the quiescence relation of the small-step
-- semantics
abbrev pub settled : List Site → World → Option (World × ℕ)
settled plan world = option_map (λ k. (after_steps plan world k, k)) (settling_count plan world)

-- event 0, the start: the world before it, settled
abbrev pub started : List Site → Option (World × ℕ)
started plan = settled plan (initial_world plan)

-- an event taken in a world, settled: the macro relation of the small-step semantics
abbrev pub posted : List Site → World → Event → Option (World × ℕ)
posted plan world event = settled plan (take plan world event)

-- the world alone
abbrev pub settled_world : Option (World × ℕ) → Option World
settled_world settled = option_map (λ found. found.0) settled

-- the world after more events, if each settles
unfoldable pub run_on : List Site → Option World → List Event → Option World
run_on plan None history = None
run_on plan (Some world) [] = Some world
run_on plan (Some world) (event ∷ history) = run_on plan (settled_world (posted plan world event)) history

-- the run over a history: the start, and then each event in order; none where one of them does not settle. It is the
-- execution relation of the small-step semantics.
abbrev pub run : List Site → List Event → Option World
run plan history = run_on plan (settled_world (started plan)) history

-- When a world settles, from the worlds on its way.
use Rattle.std.proofs.Common.{◌≡◌, ℕ, suc, ◌+◌, ◌<◌, ◌≤◌, inl, inr, Bool, true, false, List, length, get_or, slice_get, Option, Some, None, IsSome, refl, arith, ap, sym, subst, ◌∙◌, add-one}
use Rattle.std.specs.List.{find, position_or_len, range_with_len}
use Rattle.std.specs.Option.{option_map, unwrap_or}
use Rattle.std.proofs.lemmas.Bool.{cases_lt}
use Rattle.std.proofs.lemmas.List.Folds.{find_at}
use Rattle.std.proofs.lemmas.List.FromFn.{get_or-range_with_len, length-range_with_len}
use Rattle.std.proofs.lemmas.List.Recursion.{found_at, found_nowhere}
use Rattle.std.proofs.lemmas.List.Sums.{fails_before_first, passes_at_first}
use Rattle.std.proofs.lemmas.Option.{get_or_from_slice_get, slice_get_within}
use Rattle.px_value.proofs.General.{none_found, option_map_some}
use Rattle.px_sem.specs.declared.moves.Move.{Move}
use Rattle.px_core.specs.Plan.{Site}
use Rattle.px_sem.specs.World.{World}
use Rattle.px_sem.specs.Conflicts.{is_quiet}
use Rattle.px_sem.specs.Step.{micro, moves}
use Rattle.px_sem.specs.Stepper.{State, Steps}
use Rattle.px_sem.specs.Run.{step_limit, after_steps, is_quiet_after, least, IsLeast, settling_count, steps_until_quiet, settled}

-- after so many micro steps, none of which began in a quiet world
pub record IsUnderway (from now : State) (count : ℕ) : Type 0 where
  pub nodes : now.nodes ≡ from.nodes
  pub pending : now.pending ≡ from.pending
  pub reached : now.world ≡ after_steps from.nodes from.world count
  pub busy : (j : ℕ) → j < count → is_quiet from.nodes (after_steps from.nodes from.world j) ≡ false

-- ---- the least number that passes

-- the numbers up to a bound
abbrev up_to : ℕ → List ℕ
up_to bound = range_with_len 0 (bound + 1)

length-up_to : (bound : ℕ) → length (up_to bound) ≡ bound + 1
length-up_to bound = length-range_with_len 0 (bound + 1)

at_itself : (bound j : ℕ) → j ≤ bound → get_or (up_to bound) j 0 ≡ j
at_itself bound j within = omega (arith, get_or-range_with_len 0 (bound + 1) j 0 (omega arith))

pub least_none : (test : ℕ → Bool) (bound : ℕ) → ((j : ℕ) → j ≤ bound → test j ≡ false) → least test bound ≡ None
unfolding least
least_none test bound fails =
    found_nowhere (find test) test Some None refl (λ x xs. refl) (up_to bound) 0 (λ j below.
    let within : j ≤ bound = omega (arith, below, length-up_to bound) in
    ap test (at_itself bound j within) ∙ fails j within)

pub least_at : (test : ℕ → Bool) (bound k : ℕ) → k ≤ bound → test k ≡ true
    → ((j : ℕ) → j < k → test j ≡ false) → least test bound ≡ Some k
unfolding least
least_at test bound k within passes fails =
    let at = at_itself bound k within in
    found_at (find test) test Some None refl (λ x xs. refl) (up_to bound) k 0
    (omega (arith, length-up_to bound))
    (λ j before. ap test (at_itself bound j (omega arith)) ∙ fails j before) (ap test at ∙ passes)
    ∙ ap Some at

pub least_found : (test : ℕ → Bool) (bound k : ℕ) → least test bound ≡ Some k → IsLeast test bound k
unfolding least
least_found test bound k is =
    let at : slice_get (up_to bound) (position_or_len test (up_to bound)) ≡ Some k = sym (find_at test (up_to bound)) ∙ is in
    let below = slice_get_within (up_to bound) (position_or_len test (up_to bound)) k at in
    let within : position_or_len test (up_to bound) ≤ bound = omega (arith, below, length-up_to bound) in
    let here = get_or_from_slice_get (up_to bound) (position_or_len test (up_to bound)) k 0 at in
    let first : position_or_len test (up_to bound) ≡ k = sym (at_itself bound (position_or_len test (up_to bound)) within) ∙ here in
    record {
      passes = ap test (sym here) ∙ passes_at_first test (up_to bound) 0 below;
      none_below = λ j before.
          ap test (sym (at_itself bound j (omega (arith, first, within))))
          ∙ fails_before_first test (up_to bound) j 0 (omega (arith, first));
      within = omega (arith, first, within);
    }

pub none_least : (test : ℕ → Bool) (bound : ℕ) → least test bound ≡ None → (j : ℕ) → j ≤ bound → test j ≡ false
unfolding least
none_least test bound none j within =
    ap test (sym (at_itself bound j within))
    ∙ none_found test (up_to bound) none j 0 (omega (arith, length-up_to bound))

-- ---- on the way

pub underway_at_once : (from : State) → IsUnderway from from 0
unfolding after_steps
underway_at_once from = record { nodes = refl; pending = refl; reached = refl; busy = λ j h. absurd (omega arith) }

-- what is seen of a world on the way is seen of the world after so many steps
seen_underway : {X : Type 0} (see : List Site → World → X) (from now : State) (count : ℕ) → IsUnderway from now count
    → see now.nodes now.world ≡ see from.nodes (after_steps from.nodes from.world count)
seen_underway see from now count u = ap (λ plan. see plan now.world) u.nodes ∙ ap (see from.nodes) u.reached

pub underway_after_step : (from now next : State) (count : ℕ) (made : List Move) (answer : Bool)
    → IsUnderway from now count → answer ≡ true → Steps now next made answer → IsUnderway from next (count + 1)
unfolding after_steps
underway_after_step from now next count made false u a s = cc
underway_after_step from now next count made true u a s =
    record { nodes = nodes; pending = pending; reached = after; busy = busy }
  where
    nodes : next.nodes ≡ from.nodes
    nodes = ap (λ (x : State). x.nodes) s.1 ∙ u.nodes

    pending : next.pending ≡ from.pending
    pending = ap (λ (x : State). x.pending) s.1 ∙ u.pending

    after : next.world ≡ after_steps from.nodes from.world (count + 1)
    after =
        let step : after_steps from.nodes from.world (suc count) ≡ micro from.nodes (after_steps from.nodes from.world count) = refl in
        let made : next.world ≡ micro now.nodes now.world = ap (λ (x : State). x.world) s.1 in
        rw add-one (made ∙ seen_underway micro from now count u)

    not_quiet : is_quiet from.nodes (after_steps from.nodes from.world count) ≡ false
    not_quiet = sym (seen_underway is_quiet from now count u) ∙ s.0

    busy : (j : ℕ) → j < count + 1 → is_quiet from.nodes (after_steps from.nodes from.world j) ≡ false
    busy j h = elim (cases_lt j count) [
      | inl below ↦ u.busy j below
      | inr at ↦ let is : j ≡ count = omega arith in ap (is_quiet_after from.nodes from.world) is ∙ not_quiet
    ]

-- the moves of a step on the way
pub moves_of_step : (from now next : State) (count : ℕ) (made : List Move) (answer : Bool)
    → IsUnderway from now count → answer ≡ true → Steps now next made answer
    → made ≡ moves from.nodes (after_steps from.nodes from.world count)
moves_of_step from now next count made false u a s = cc
moves_of_step from now next count made true u a s =
    s.2 ∙ seen_underway moves from now count u

pub quiet_after : (now next : State) (made : List Move) (answer : Bool) → answer ≡ false → Steps now next made answer
    → is_quiet next.nodes next.world ≡ true
quiet_after now next made true a s = cc
quiet_after now next made false a s = ap (λ (x : State). is_quiet x.nodes x.world) s.1 ∙ s.0

pub settles_at : (from now next : State) (count : ℕ) (made : List Move) (answer : Bool)
    → IsUnderway from now count → count ≤ step_limit → answer ≡ false → Steps now next made answer
    → settled from.nodes from.world ≡ Some (next.world, count)
settles_at from now next count made true u within a s = cc
settles_at from now next count made false u within a s =
    let quiet : is_quiet from.nodes (after_steps from.nodes from.world count) ≡ true =
    sym (seen_underway is_quiet from now count u) ∙ s.0 in
    let at = least_at (is_quiet_after from.nodes from.world) step_limit count within quiet u.busy in
    let is : next.world ≡ after_steps from.nodes from.world count = ap (λ (x : State). x.world) s.1 ∙ u.reached in
    rw is (ap (option_map (λ k. (after_steps from.nodes from.world k, k))) at)

pub runs_away : (from now : State) (count : ℕ) → IsUnderway from now count → step_limit < count
    → settled from.nodes from.world ≡ None
runs_away from now count u beyond =
    ap (option_map (λ k. (after_steps from.nodes from.world k, k)))
    (least_none _ step_limit (λ j h. u.busy j (omega arith)))

-- the number of the micro steps of a world that settles
pub settled_count : (plan : List Site) (from to : World) (count : ℕ) → settled plan from ≡ Some (to, count)
    → settling_count plan from ≡ Some count
settled_count plan from to count is =
    let found = option_map_some {Y = World × ℕ} (λ (k : ℕ). (after_steps plan from k, k)) (settling_count plan from) (to, count) is in
    found.1 ∙ ap (λ (p : World × ℕ). Some p.1) found.2

pub underway_within : (from now : State) (count : ℕ)
    → IsUnderway from now count → IsSome (settled from.nodes from.world)
    → (count ≤ steps_until_quiet from.nodes from.world) × (steps_until_quiet from.nodes from.world ≤ step_limit)
underway_within from now count u s = at (settling_count from.nodes from.world) refl s
  where
    until : (k : ℕ) → is_quiet_after from.nodes from.world k ≡ true → count ≤ k
    until k quiet = elim (cases_lt k count) [
      | inl below ↦ let busy : is_quiet_after from.nodes from.world k ≡ false = u.busy k below in cc
      | inr beyond ↦ beyond
    ]

    at : (o : Option ℕ) → settling_count from.nodes from.world ≡ o
        → IsSome {T = World × ℕ} (option_map (λ k. (after_steps from.nodes from.world k, k)) o) → (count ≤ unwrap_or o 0) × (unwrap_or o 0 ≤ step_limit)
    at None e some = cc
    at (Some k) e some = let found = least_found (is_quiet_after from.nodes from.world) step_limit k e in (until k found.passes, found.within)

-- a stepper in the world that a world settles into is quiet
pub settled_quiet : (plan : List Site) (from : World) (now : State) (k : ℕ) → now.nodes ≡ plan → settled plan from ≡ Some (now.world, k)
    → is_quiet now.nodes now.world ≡ true
settled_quiet plan from now k same is =
    let found = option_map_some {Y = World × ℕ} (λ (j : ℕ). (after_steps plan from j, j)) (settling_count plan from) (now.world, k) is in
    subst (λ nodes. is_quiet nodes now.world ≡ true) (sym same)
    (subst (λ world. is_quiet plan world ≡ true) (ap (λ (p : World × ℕ). p.0) found.2)
    (least_found (is_quiet_after plan from) step_limit found.0 found.1).passes)

-- Every world that a run reaches is typed.
use Rattle.std.proofs.Common.{◌≡◌, ℕ, zero, suc, List, [], ◌∷◌, Option, Some, None, refl, sym, subst}
use Rattle.std.specs.List.{All}
use Rattle.std.specs.Option.{ForSome, unwrap_or, option_map}
use Rattle.px_core.specs.Fit.{AreDistinct}
use Rattle.px_core.specs.Plan.{Site, no_site, site_at}
use Rattle.px_event.specs.declared.event.Event.{Event}
use Rattle.px_sem.specs.World.{World, initial_world, initial_record}
use Rattle.px_sem.specs.Events.{take}
use Rattle.px_sem.specs.Run.{after_steps, settling_count, settled, settled_world, started, posted, run_on, run}
use Rattle.px_typed.specs.Typing.{InitialsSuit, KeptSuits, IsTyped}
use Rattle.px_typed.proofs.Effects.{nothing_kept}
use Rattle.px_typed.proofs.Events.{event_typed}
use Rattle.px_typed.proofs.Records.{found, record_of, record_of_start}
use Rattle.px_typed.proofs.Steps.{step_typed}
use Rattle.px_typed.proofs.Variables.{HoldsSuiting, unknown_values_suit}

start_typed : (plan : List Site) → IsTyped plan (initial_world plan)
start_typed plan = record {
  cells = λ owner name.
      subst (λ r. HoldsSuiting (site_at plan owner).head.variables name r.variables) (sym (record_of_start plan owner))
      (cells name (found plan owner));
  kept = λ path.
      subst (λ r. KeptSuits plan (site_at plan path).head.body r.action) (sym (record_of_start plan path))
      (kept (found plan path));
}
  where
    cells : (name : List ℕ) (s : Option Site)
        → HoldsSuiting (unwrap_or s no_site).head.variables name (record_of (λ site. initial_record site.head) s).variables
    cells name None = λ variable is. absurd (cc)
    cells name (Some site) = unknown_values_suit site.head.variables name

    kept : (s : Option Site)
        → KeptSuits plan (unwrap_or s no_site).head.body (record_of (λ site. initial_record site.head) s).action
    kept None = tt
    kept (Some site) = nothing_kept plan site.head.body

steps_typed : (plan : List Site) (world : World) → AreDistinct plan → All InitialsSuit plan → IsTyped plan world → (k : ℕ)
    → IsTyped plan (after_steps plan world k)
unfolding after_steps
steps_typed plan world distinct initials typed zero = typed
steps_typed plan world distinct initials typed (suc k) =
    step_typed plan (after_steps plan world k) distinct initials (steps_typed plan world distinct initials typed k)

settled_typed : (plan : List Site) (world : World) → AreDistinct plan → All InitialsSuit plan → IsTyped plan world
    → ForSome (settled_world (settled plan world)) (IsTyped plan)
settled_typed plan world distinct initials typed = by (settling_count plan world)
  where
    by : (count : Option ℕ)
        → ForSome (settled_world (option_map (λ k. (after_steps plan world k, k)) count)) (IsTyped plan)
    by None = λ w is. absurd (cc)
    by (Some k) = λ w is.
        let it : after_steps plan world k ≡ w = cc in
        subst (IsTyped plan) it (steps_typed plan world distinct initials typed k)

run_on_typed : (plan : List Site) → AreDistinct plan → All InitialsSuit plan → (history : List Event) (now : Option World)
    → ForSome now (IsTyped plan) → ForSome (run_on plan now history) (IsTyped plan)
unfolding run_on
run_on_typed plan distinct initials [] None typed = typed
run_on_typed plan distinct initials [] (Some world) typed = typed
run_on_typed plan distinct initials (event ∷ history) None typed = typed
run_on_typed plan distinct initials (event ∷ history) (Some world) typed =
    run_on_typed plan distinct initials history (settled_world (posted plan world event))
    (settled_typed plan (take plan world event) distinct initials (event_typed plan world event (typed world refl)))

pub run_typed : (plan : List Site) (history : List Event) → AreDistinct plan → All InitialsSuit plan
    → ForSome (run plan history) (IsTyped plan)
run_typed plan history distinct initials =
    run_on_typed plan distinct initials history (settled_world (started plan))
    (settled_typed plan (initial_world plan) distinct initials (start_typed plan))

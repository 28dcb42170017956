-- A micro step keeps the types of cells and of kept values.
use Rattle.std.proofs.Common.{◌≡◌, ℕ, Bool, true, false, List, slice_index_or, Option, Some, None, refl, ap, sym, ◌∙◌, subst}
use Rattle.std.specs.List.{All}
use Rattle.std.specs.Option.{ForSome, unwrap_or}
use Rattle.std.proofs.lemmas.List.Elements.{All-map}
use Rattle.std.proofs.lemmas.Option.{option_and_then_some}
use Rattle.px_core.specs.Fit.{AreDistinct}
use Rattle.px_core.specs.Plan.{Site, VariableData, no_site, site_at}
use Rattle.px_sem.specs.declared.guards.Arrival.{Arrival}
use Rattle.px_sem.specs.World.{World, record_at, variable_among, variable_at}
use Rattle.px_sem.specs.Conflicts.{transition}
use Rattle.px_sem.specs.Effects.{effects_of, write_to}
use Rattle.px_sem.specs.Step.{micro, record_after, initializes, next_record, own_write, step_writes, variables_by, written_in_step}
use Rattle.px_sem.proofs.Writes.{IsTo, found_to}
use Rattle.px_typed.specs.Typing.{InitialsSuit, KeptSuits, IsTyped}
use Rattle.px_typed.proofs.Effects.{WriteSuits, effects_suit, effects_keep}
use Rattle.px_typed.proofs.Records.{found, found_named, found_holds, each_is_found, record_of, record_of_step}
use Rattle.px_typed.proofs.Variables.{HoldsSuiting, Keeps, initial_values_suit, changed_suit, written_suits}

-- what is kept of a node that is found at its path suits
kept_at : (plan : List Site) (world : World) → IsTyped plan world → (site : Site) → found plan site.path ≡ Some site
    → KeptSuits plan site.head.body (record_at world site.path).action
kept_at plan world typed site own =
    subst (λ s. KeptSuits plan (unwrap_or s no_site).head.body (record_at world site.path).action) own (typed.kept site.path)

-- ---- the writes of a step

own_write_suits : (plan : List Site) (world : World) → IsTyped plan world → (site : Site)
    → found plan site.path ≡ Some site → ForSome (own_write plan world site) (WriteSuits plan)
own_write_suits plan world typed site own write is =
    option_and_then_some (λ (arrival : Arrival). (effects_of plan world site arrival).write) (transition plan world site) write is
    (λ arrival there. effects_suit plan world site arrival (kept_at plan world typed site own) write)

-- ---- the variables of a node

step_holds : (plan : List Site) (world : World) → AreDistinct plan → All InitialsSuit plan → IsTyped plan world
    → (site : Site) → found plan site.path ≡ Some site → (name : List ℕ) (b : Bool)
    → HoldsSuiting site.head.variables name (variables_by plan world site b)
step_holds plan world distinct initials typed site own name true =
    initial_values_suit site.head.variables name (found_holds InitialsSuit plan initials site.path site own)
step_holds plan world distinct initials typed site own name false =
    changed_suit (written_in_step plan world site)
    site.head.variables (record_at world site.path).variables name
    (subst (λ s. HoldsSuiting (unwrap_or s no_site).head.variables name (record_at world site.path).variables) own
    (typed.cells site.path name))
    keeps
  where
    all_suit : All (λ write. ForSome write (WriteSuits plan)) (step_writes plan world)
    all_suit = All-map (λ write. ForSome write (WriteSuits plan)) (own_write plan world) plan
        (λ k d within. own_write_suits plan world typed (slice_index_or plan k d) (each_is_found plan distinct k d within))

    keeps : ForSome (variable_among site.head.variables name)
        (Keeps (written_in_step plan world site))
    keeps variable is cells suit =
        written_suits variable cells (write_to site.path variable.name (step_writes plan world)) suit
        (λ write written_is.
        let it : IsTo (WriteSuits plan) site.path variable.name write =
        found_to (WriteSuits plan) site.path variable.name (step_writes plan world) all_suit write written_is in
        it.0 variable
        (ap (λ owner. variable_at plan owner write.name) it.1
        ∙ ap (variable_at plan site.path) (it.2 ∙ found_named (λ (variable : VariableData). variable.name) site.head.variables name variable is)
        ∙ ap (λ s. variable_among (unwrap_or s no_site).head.variables name) own
        ∙ is))

-- ---- the records

step_cells : (plan : List Site) (world : World) → AreDistinct plan → All InitialsSuit plan → IsTyped plan world
    → (owner name : List ℕ)
    → HoldsSuiting (site_at plan owner).head.variables name (record_at (micro plan world) owner).variables
step_cells plan world distinct initials typed owner name =
    subst (λ r. HoldsSuiting (site_at plan owner).head.variables name r.variables) (sym (record_of_step plan world owner))
    (by (found plan owner) refl)
  where
    moved : (site : Site) → found plan site.path ≡ Some site → (arrival : Option Arrival)
        → HoldsSuiting site.head.variables name (record_after plan world site arrival).variables
    moved site own None = step_holds plan world distinct initials typed site own name false
    moved site own (Some arrival) =
        step_holds plan world distinct initials typed site own name
        (initializes (record_at world site.path) (Some arrival))

    by : (s : Option Site) → found plan owner ≡ s
        → HoldsSuiting (unwrap_or s no_site).head.variables name (record_of (next_record plan world) s).variables
    by None is = λ variable has. absurd (cc)
    by (Some site) is =
        moved site (ap (found plan) (found_named (λ (site : Site). site.path) plan owner site is) ∙ is) (transition plan world site)

step_keeps : (plan : List Site) (world : World) → IsTyped plan world → (path : List ℕ)
    → KeptSuits plan (site_at plan path).head.body (record_at (micro plan world) path).action
step_keeps plan world typed path =
    subst (λ r. KeptSuits plan (site_at plan path).head.body r.action) (sym (record_of_step plan world path))
    (by (found plan path) refl)
  where
    moved : (site : Site) → KeptSuits plan site.head.body (record_at world site.path).action → (arrival : Option Arrival)
        → KeptSuits plan site.head.body (record_after plan world site arrival).action
    moved site kept None = kept
    moved site kept (Some arrival) = effects_keep plan world site arrival typed.cells kept

    by : (s : Option Site) → found plan path ≡ s
        → KeptSuits plan (unwrap_or s no_site).head.body (record_of (next_record plan world) s).action
    by None is = tt
    by (Some site) is =
        let own : found plan site.path ≡ Some site = ap (found plan) (found_named (λ (site : Site). site.path) plan path site is) ∙ is in
        moved site (kept_at plan world typed site own) (transition plan world site)

pub step_typed : (plan : List Site) (world : World) → AreDistinct plan → All InitialsSuit plan → IsTyped plan world
    → IsTyped plan (micro plan world)
step_typed plan world distinct initials typed = record {
  cells = step_cells plan world distinct initials typed;
  kept = step_keeps plan world typed;
}

-- What is found in the world at the path of a node, and at a path that the plan doesn't have.
use Rattle.std.proofs.Common.{◌≡◌, ◌≢◌, ℕ, ◌+◌, ◌<◌, Bool, true, false, cond, List, [], ◌∷◌, length, refl, ap, sym, ◌∙◌, Some}
use Rattle.std.specs.List.{position_from}
use Rattle.std.specs.Map.{lookup}
use Rattle.std.specs.Option.{option_map, unwrap_or}
use Rattle.std.proofs.lemmas.Cmp.{nat_list_eq_equiv}
use Rattle.std.proofs.lemmas.Iterator.Adapters.{position_from-zero}
use Rattle.px_value.specs.declared.enums.NodeState.{NodeState}
use Rattle.px_value.specs.declared.enums.NodeState.TheVariants as states
use Rattle.px_value.specs.declared.enums.Outcome.TheVariants.{Success}
use Rattle.px_value.proofs.General.{option_map-map}
use Rattle.px_core.specs.Plan.{Site, is_same, root_of}
use Rattle.px_sem.specs.declared.standing.Standing.TheVariants.{Finished, Running}
use Rattle.px_sem.specs.World.{World, NodeRecord, record_at, known_state, standing_of}
use Rattle.px_flat.specs.Parts.{entries}
use Rattle.px_flat.specs.Row.{site_in, paths_of, number_at}
use Rattle.px_flat.proofs.Tables.{flat_sound}
use Rattle.px_flat.proofs.Worlds.{record_at-world_of}
use Rattle.px_parts.specs.declared.parts.Parts.{Parts}
use Rattle.px_parts.specs.Parts.{plan_in, world_in, record_of}

-- ---- by a path

looked_from : (plan : List Site) (f : ℕ → NodeRecord) (first : ℕ) (path : List ℕ)
    → lookup (λ key. is_same key path) (entries f first plan)
    ≡ option_map f (position_from (is_same path) first (paths_of plan))
looked_from [] f first path = refl
looked_from (site ∷ plan) f first path =
    by (is_same site.path path) (is_same path site.path) (nat_list_eq_equiv.symm site.path path)
    (looked_from plan f (first + 1) path)
  where
    by : (here there : Bool) → here ≡ there
        → lookup (λ key. is_same key path) (entries f (first + 1) plan)
        ≡ option_map f (position_from (is_same path) (first + 1) (paths_of plan))
        → cond here (Some (f first)) (lookup (λ key. is_same key path) (entries f (first + 1) plan))
        ≡ option_map f (cond there (Some first) (position_from (is_same path) (first + 1) (paths_of plan)))
    by true true same rest = refl
    by false false same rest = rest
    by true false same rest = absurd (cc)
    by false true same rest = absurd (cc)

pub state_known : (parts : Parts) (path : List ℕ)
    → option_map (λ node. (record_of parts node).state) (number_at (plan_in parts) path)
    ≡ known_state (world_in parts) path
state_known parts path =
    option_map-map (λ (r : NodeRecord). r.state) (record_of parts) (λ node. (record_of parts node).state) (λ node. refl)
    (number_at (plan_in parts) path)
    ∙ sym (ap (option_map (λ r. r.state)) found)
  where
    found : lookup (λ key. is_same key path) (world_in parts).nodes
        ≡ option_map (record_of parts) (number_at (plan_in parts) path)
    found =
        looked_from (plan_in parts) (record_of parts) 0 path
        ∙ ap (option_map (record_of parts)) (sym (position_from-zero (is_same path) (paths_of (plan_in parts))))

-- ---- the root

pub some_node : (parts : Parts) → 0 < length (plan_in parts)
some_node parts = (flat_sound parts.flat).some

-- the record of a node
pub record_is : (parts : Parts) (node : ℕ) → node < length (plan_in parts)
    → record_at (world_in parts) (site_in (plan_in parts) node).path ≡ record_of parts node
record_is parts node here =
    record_at-world_of (plan_in parts) parts.cells.contents.values parts.reports.reports parts.actions.contents.values node
    (flat_sound parts.flat).distinct here

pub root_record : (parts : Parts) → record_at (world_in parts) (root_of (plan_in parts)).path ≡ record_of parts 0
root_record parts = record_is parts 0 (some_node parts)

finished : (plan : List Site) (world : World) → (record_at world (root_of plan).path).state ≡ states.Finished
    → Finished (unwrap_or (record_at world (root_of plan).path).outcome Success)
    (record_at world (root_of plan).path).failure ≡ standing_of plan world
finished plan world is = rw is refl

pub root_finished : (parts : Parts) → (record_of parts 0).state ≡ states.Finished
    → Finished (unwrap_or (record_of parts 0).outcome Success) (record_of parts 0).failure
    ≡ standing_of (plan_in parts) (world_in parts)
root_finished parts is =
    ap (λ r. Finished (unwrap_or r.outcome Success) r.failure) (sym (root_record parts))
    ∙ finished (plan_in parts) (world_in parts) (ap (λ r. r.state) (root_record parts) ∙ is)

running : (plan : List Site) (world : World) → (record_at world (root_of plan).path).state ≢ states.Finished
    → Running ≡ standing_of plan world
running plan world apart = by (record_at world (root_of plan).path).state refl
  where
    by : (state : NodeState) → (record_at world (root_of plan).path).state ≡ state → Running ≡ standing_of plan world
    by states.Finished is = absurd (apart is)
    by states.Inactive is = rw is refl
    by states.Waiting is = rw is refl
    by states.Executing is = rw is refl
    by states.IterationEnded is = rw is refl
    by states.Finishing is = rw is refl
    by states.Failing is = rw is refl

pub root_running : (parts : Parts) → (record_of parts 0).state ≢ states.Finished
    → Running ≡ standing_of (plan_in parts) (world_in parts)
root_running parts apart =
    running (plan_in parts) (world_in parts) (λ is. apart (sym (ap (λ r. r.state) (root_record parts)) ∙ is))

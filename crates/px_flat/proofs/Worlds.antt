-- The world that parts stand for, node by node.
use Rattle.std.proofs.Common.{◌≡◌, ℕ, zero, suc, ◌+◌, ◌<◌, Bool, true, false, ◌&&◌, cond, List, [], ◌∷◌, length, take, drop, refl, ap, sym, ◌∙◌, arith, Some, if◌then◌else◌}
use Rattle.std.specs.Map.{lookup}
use Rattle.std.specs.Option.{unwrap_or}
use Rattle.std.specs.Cmp.Lexicographic.{same_text}
use Rattle.std.proofs.lemmas.Bool.{and_parts}
use Rattle.std.proofs.lemmas.Grind.{common_steps}
use Rattle.std.proofs.lemmas.List.{drop-drop, get_or_default}
use Rattle.std.proofs.lemmas.List.Folds.{Any-from_list_any}
use Rattle.px_value.specs.declared.value.Value.{Value}
use Rattle.px_value.specs.declared.value.Value.TheVariants as values
use Rattle.px_core.specs.Fit.{cells_of, has_site, AreDistinct}
use Rattle.px_core.specs.Plan.{Site, VariableData, is_same, no_site}
use Rattle.px_core.proofs.Paths.{same-self, distinct_behind, head_differs}
use Rattle.px_sem.specs.Expressions.{outcome_value, failure_value, handle_value, handle_of, is_acknowledged}
use Rattle.px_sem.specs.World.{NodeRecord, LookState, Report, no_record, record_at, of_variable}
use Rattle.px_flat.specs.declared.act.Act.{Act}
use Rattle.px_flat.specs.declared.act.Act.TheVariants as under_way
use Rattle.px_flat.specs.Layout.{Place, place_from}
use Rattle.px_flat.specs.Parts.{state_in, outcome_in, failure_in, action_in, values_in, record_in, entries, world_of, is_state, is_outcome, is_failure, is_handle_of, is_acknowledgement_of}
use Rattle.px_flat.specs.Row.{site_in}
use Rattle.px_flat.specs.Numbered.{node_of}
use Rattle.px_flat.proofs.Numbers.{number_is}

-- ---- the record of a node

found_among : (plan : List Site) (f : ℕ → NodeRecord) (first i : ℕ) → AreDistinct plan → i < length plan
    → lookup (λ key. is_same key (site_in plan i).path) (entries f first plan)
    ≡ Some (f (first + i))
found_among [] f first i distinct within = absurd (omega arith)
found_among (site ∷ plan) f first zero distinct within = grind (arith, common_steps, same-self)
found_among (site ∷ plan) f first (suc i) distinct within =
    let own : List ℕ = (site_in plan i).path in
    let inside : i < length plan = omega arith in
    let there : first + 1 + i ≡ first + suc i = omega arith in
    ap (λ b. cond b (Some (f first)) (lookup (λ key. is_same key own) (entries f (first + 1) plan))) (head_differs site plan i distinct inside)
    ∙ found_among plan f (first + 1) i (distinct_behind site plan distinct) inside
    ∙ ap (λ n. Some (f n)) there

-- the record of the node with a number
pub record_at-world_of : (plan : List Site) (cells : List Value) (reports : List (LookState × Report)) (acts : List Act)
    (node : ℕ) → AreDistinct plan → node < length plan
    → record_at (world_of plan cells reports acts) (site_in plan node).path ≡ record_in plan cells acts node
record_at-world_of plan cells reports acts node distinct within =
    ap (λ found. unwrap_or found no_record) (found_among plan (record_in plan cells acts) 0 node distinct within)
    ∙ ap (record_in plan cells acts) (omega arith)

-- ---- what a cell says of a node, as a value

pub state_value-state_in : (value : Value) → is_state value ≡ true → values.State (state_in value) ≡ value
state_value-state_in (values.State state) is = refl
state_value-state_in value is = absurd (cc)

pub outcome_value-outcome_in : (value : Value) → is_outcome value ≡ true → outcome_value (outcome_in value) ≡ value
outcome_value-outcome_in values.Unknown is = refl
outcome_value-outcome_in (values.Outcome outcome) is = refl
outcome_value-outcome_in value is = absurd (cc)

pub failure_value-failure_in : (value : Value) → is_failure value ≡ true → failure_value (failure_in value) ≡ value
failure_value-failure_in values.Unknown is = refl
failure_value-failure_in (values.Failure failure) is = refl
failure_value-failure_in value is = absurd (cc)

-- of a command: its handle, and UNKNOWN where none is under way
pub handle_value-action_in : (act : Act) (handle acknowledgement : Value) → is_handle_of act handle ≡ true
    → handle_value (handle_of (action_in act handle acknowledgement)) ≡ handle
handle_value-action_in under_way.Idle values.Unknown acknowledgement is = refl
handle_value-action_in under_way.Unwritten values.Unknown acknowledgement is = refl
handle_value-action_in (under_way.Scalar old) values.Unknown acknowledgement is = refl
handle_value-action_in (under_way.Element index old) values.Unknown acknowledgement is = refl
handle_value-action_in (under_way.Sent index abort) values.Unknown acknowledgement is = refl
handle_value-action_in under_way.Updated values.Unknown acknowledgement is = refl
handle_value-action_in (under_way.Sent index abort) (values.Handle handle) acknowledgement is = refl
handle_value-action_in act handle acknowledgement is = absurd (cc)

-- of an update: whether it was acknowledged, and false where none is under way
pub is_acknowledged-action_in : (act : Act) (handle acknowledgement : Value)
    → is_acknowledgement_of act acknowledgement ≡ true
    → values.Boolean (is_acknowledged (action_in act handle acknowledgement)) ≡ acknowledgement
is_acknowledged-action_in under_way.Idle handle (values.Boolean false) is = refl
is_acknowledged-action_in under_way.Unwritten handle (values.Boolean false) is = refl
is_acknowledged-action_in (under_way.Scalar old) handle (values.Boolean false) is = refl
is_acknowledged-action_in (under_way.Element index old) handle (values.Boolean false) is = refl
is_acknowledged-action_in (under_way.Sent index abort) handle (values.Boolean false) is = refl
is_acknowledged-action_in under_way.Updated handle (values.Boolean false) is = refl
is_acknowledged-action_in under_way.Updated handle (values.Boolean true) is = refl
is_acknowledged-action_in act handle acknowledgement is = absurd (cc)

-- ---- variables

-- the values of a variable stand at its place
pub of_variable-values_in : (variables : List VariableData) (cells : List Value) (cell : ℕ) (name : List ℕ) (place : Place)
    → place_from cell variables name ≡ Some place
    → of_variable name variables (values_in variables (drop cell cells)) ≡ Some (take place.size (drop place.first cells))
of_variable-values_in [] cells cell name place at = absurd (cc)
of_variable-values_in (variable ∷ variables) cells cell name place at =
    by (is_same variable.name name) refl at (of_variable-values_in variables cells (cell + cells_of variable) name place)
  where
    by : (same : Bool) → is_same variable.name name ≡ same
        → (if same then Some (record { first = cell; size = cells_of variable })
        else place_from (cell + cells_of variable) variables name) ≡ Some place
        → (place_from (cell + cells_of variable) variables name ≡ Some place
        → of_variable name variables (values_in variables (drop (cell + cells_of variable) cells))
        ≡ Some (take place.size (drop place.first cells)))
        → (if same then Some (take (cells_of variable) (drop cell cells))
        else of_variable name variables (values_in variables (drop (cells_of variable) (drop cell cells))))
        ≡ Some (take place.size (drop place.first cells))
    by true is at rest =
        let own : Place = record { first = cell; size = cells_of variable } in
        let same : own ≡ place = (cc) in
        ap (λ (place : Place). Some (take place.size (drop place.first cells))) same
    by false is at rest =
        ap (λ cells. of_variable name variables (values_in variables cells)) (drop-drop (cells_of variable) cell cells)
        ∙ rest at

-- ---- what is there

-- a node at this path, which is as asked
pub record IsThere (plan : List Site) (path : List ℕ) (holds : Site → Bool) : Type 0 where
  pub node : ℕ
  pub within : node < length plan
  pub path_is : (site_in plan node).path ≡ path
  pub is : holds (site_in plan node) ≡ true

pub site_there : (holds : Site → Bool) (path : List ℕ) (plan : List Site) → has_site holds path plan ≡ true
    → IsThere plan path holds
site_there holds path plan there =
    let found = Any-from_list_any (λ (site : Site). is_same site.path path && holds site) plan there in
    let site : Site = found.1 in
    let both = and_parts (is_same site.path path) (holds site) found.4 in
    let here : site_in plan found.0 ≡ site = get_or_default plan found.0 no_site site found.2 ∙ found.3 in
    record {
      node = found.0;
      within = found.2;
      path_is = ap (λ (site : Site). site.path) here ∙ same_text site.path path (sym both.0);
      is = ap holds here ∙ both.1;
    }

-- the number of a node by its path
pub node_of-path : (plan : List Site) (node : ℕ) → AreDistinct plan → node < length plan
    → node_of plan (site_in plan node).path ≡ node
node_of-path plan node distinct within = ap (λ number. unwrap_or number 0) (number_is plan node distinct within)

-- The cells of a plan that has not begun stand for its initial world.
use Rattle.std.proofs.Common.{◌≡◌, ℕ, zero, suc, ◌+◌, ◌-◌, false, ◌*◌, ◌<◌, ◌≤◌, List, [], ◌∷◌, ◌++◌, length, map, sum, take, drop, get_or, replicate, refl, ap, ◌∙◌, arith, length-append}
use Rattle.std.proofs.lemmas.List.{drop-append-le, drop-replicate, get_or-append-add, get_or_append_left, get_or-replicate, length-replicate, take-append-le, take-replicate}
use Rattle.std.proofs.lemmas.List.Sums.{sum_by-cons}
use Rattle.std.proofs.Concat.{length-repeat}
use Rattle.px_value.specs.declared.enums.NodeState.TheVariants.{Inactive}
use Rattle.px_value.specs.declared.value.Value.{Value}
use Rattle.px_value.specs.declared.value.Value.TheVariants as values
use Rattle.px_core.specs.Fit.{cells_of}
use Rattle.px_core.specs.Plan.{Site, VariableData}
use Rattle.px_sem.specs.World.{World, NoAction, initial_record, initial_world}
use Rattle.px_flat.specs.declared.act.Act.{Act}
use Rattle.px_flat.specs.declared.act.Act.TheVariants as acts
use Rattle.px_flat.specs.Layout.{variable_cells, first_cell, node_cell, state_cell, handle_cell, acknowledgement_cell, all_cells}
use Rattle.px_flat.specs.Numbered.{held}
use Rattle.px_flat.specs.Parts.{IsNode, IsParts, act_of, action_in, state_in, outcome_in, failure_in, record_in, values_in, world_of, is_state, is_outcome, is_failure, is_handle_of, is_acknowledgement_of, fits}
use Rattle.px_flat.specs.Row.{site_in}
use Rattle.px_flat.proofs.Changes.{nodes_are}
use Rattle.px_flat.proofs.Variables.{cells_within}
use Rattle.px_parts.specs.Fresh.{at_rest, all_at_rest, first_cells}

-- ---- the cells of nodes

pub long_first_cells : (plan : List Site) → length (first_cells plan) ≡ all_cells plan
long_first_cells plan =
    length-append (replicate (variable_cells plan) values.Unknown) (all_at_rest (length plan))
    ∙ omega (arith, length-replicate (variable_cells plan) values.Unknown, length-repeat (length plan) at_rest)

-- the cells of one among them
cell_at_rest : (nodes node which : ℕ) → node < nodes → which < 5
    → get_or (all_at_rest nodes) (5 * node + which) values.Unknown ≡ get_or at_rest which values.Unknown
cell_at_rest zero node which within some = absurd (omega arith)
cell_at_rest (suc nodes) zero which within some =
    let here : 5 * 0 + which ≡ which = omega arith in
    ap (λ at. get_or (all_at_rest (suc nodes)) at values.Unknown) here
    ∙ get_or_append_left at_rest (all_at_rest nodes) values.Unknown which some
cell_at_rest (suc nodes) (suc node) which within some =
    let there : 5 * suc node + which ≡ 5 + (5 * node + which) = omega arith in
    ap (λ at. get_or (all_at_rest (suc nodes)) at values.Unknown) there
    ∙ get_or-append-add at_rest (all_at_rest nodes) (5 * node + which) values.Unknown
    ∙ cell_at_rest nodes node which (omega arith) some

pub held_at_rest : (plan : List Site) (node which : ℕ) → node < length plan → which < 5
    → held (first_cells plan) (node_cell plan node + which) ≡ get_or at_rest which values.Unknown
held_at_rest plan node which within some =
    let many : length (replicate (variable_cells plan) values.Unknown) ≡ variable_cells plan =
    length-replicate (variable_cells plan) values.Unknown in
    let there : node_cell plan node + which
    ≡ length (replicate (variable_cells plan) values.Unknown) + (5 * node + which) = omega (arith, many) in
    ap (held (first_cells plan)) there
    ∙ get_or-append-add (replicate (variable_cells plan) values.Unknown) (all_at_rest (length plan))
    (5 * node + which) values.Unknown
    ∙ cell_at_rest (length plan) node which within some

state_at_rest : (plan : List Site) (node : ℕ) → node < length plan
    → held (first_cells plan) (state_cell plan node) ≡ values.State Inactive
state_at_rest plan node within =
    let here : state_cell plan node ≡ node_cell plan node + 0 = omega arith in
    ap (held (first_cells plan)) here ∙ held_at_rest plan node 0 within (omega arith)

-- ---- the variables of a node

abbrev unknown : List VariableData → List (List Value)
unknown variables = map (λ variable. replicate (cells_of variable) values.Unknown) variables

drop_unknown : (some count : ℕ) (behind : List Value) → some ≤ count
    → drop some (replicate count values.Unknown ++ behind) ≡ replicate (count - some) values.Unknown ++ behind
drop_unknown some count behind few =
    drop-append-le some (replicate count values.Unknown) behind (omega (arith, few, length-replicate count values.Unknown))
    ∙ ap (λ rest. rest ++ behind) (drop-replicate some count values.Unknown)

all_unknown : (variables : List VariableData) (count : ℕ) (behind : List Value) → sum (map cells_of variables) ≤ count
    → values_in variables (replicate count values.Unknown ++ behind) ≡ unknown variables
all_unknown [] count behind within = refl
all_unknown (variable ∷ variables) count behind within =
    let own : ℕ = cells_of variable in
    let total : sum (map cells_of (variable ∷ variables)) ≡ own + sum (map cells_of variables) =
    sum_by-cons (λ n. n) own (map cells_of variables) in
    let cells : List Value = replicate count values.Unknown ++ behind in
    let long : length (replicate count values.Unknown) ≡ count = length-replicate count values.Unknown in
    let front : take own cells ≡ replicate own values.Unknown =
    take-append-le own (replicate count values.Unknown) behind (omega arith)
    ∙ take-replicate own count values.Unknown (omega arith) in
    ap (λ front. front ∷ values_in variables (drop own cells)) front
    ∙ ap (λ cells. replicate own values.Unknown ∷ values_in variables cells) (drop_unknown own count behind (omega arith))
    ∙ ap (λ more. replicate own values.Unknown ∷ more) (all_unknown variables (count - own) behind (omega arith))

-- ---- the record of a node

record_at_rest : (plan : List Site) (node : ℕ) → node < length plan
    → record_in plan (first_cells plan) (replicate (length plan) acts.Idle) node ≡ initial_record (site_in plan node).head
record_at_rest plan node within = λ i. record {
  state = state_in (state_at_rest plan node within i);
  outcome = outcome_in (held_at_rest plan node 1 within (omega arith) i);
  failure = failure_in (held_at_rest plan node 2 within (omega arith) i);
  variables = variables i;
  action = action i;
}
  where
    own : List VariableData
    own = (site_in plan node).head.variables

    count : ℕ
    count = variable_cells plan

    first : ℕ
    first = first_cell plan node

    variables : values_in own (drop first (first_cells plan)) ≡ unknown own
    variables =
        ap (values_in own) (drop_unknown first count (all_at_rest (length plan)) (omega (arith, cells_within plan node within)))
        ∙ all_unknown own (count - first) (all_at_rest (length plan)) (omega (arith, cells_within plan node within))

    idle : act_of (replicate (length plan) acts.Idle) node ≡ acts.Idle
    idle = get_or-replicate (length plan) node acts.Idle acts.Idle within

    action : action_in (act_of (replicate (length plan) acts.Idle) node)
        (held (first_cells plan) (handle_cell plan node)) (held (first_cells plan) (acknowledgement_cell plan node))
        ≡ NoAction
    action = rw idle refl

-- ---- the world

pub world_at_rest : (plan : List Site)
    → world_of plan (first_cells plan) [] (replicate (length plan) acts.Idle) ≡ initial_world plan
world_at_rest plan =
    ap (λ nodes. let made : World = record { nodes = nodes; reports = [] } in made)
    (nodes_are plan 0 (record_in plan (first_cells plan) (replicate (length plan) acts.Idle)) (λ site. initial_record site.head) (λ k within.
    let there : 0 + k ≡ k = omega arith in
    ap (record_in plan (first_cells plan) (replicate (length plan) acts.Idle)) there ∙ record_at_rest plan k within))

-- ---- the parts stand

node_at_rest : (plan : List Site) (node : ℕ) → node < length plan
    → IsNode plan (first_cells plan) (replicate (length plan) acts.Idle) node
node_at_rest plan node within = record {
  state = ap is_state (state_at_rest plan node within);
  outcome = ap is_outcome (held_at_rest plan node 1 within (omega arith));
  failure = ap is_failure (held_at_rest plan node 2 within (omega arith));
  handle = ap (is_handle_of act) (held_at_rest plan node 3 within (omega arith)) ∙ ap (λ act. is_handle_of act values.Unknown) idle;
  acknowledgement = ap (is_acknowledgement_of act) (held_at_rest plan node 4 within (omega arith))
      ∙ ap (λ act. is_acknowledgement_of act (values.Boolean false)) idle;
  act = ap (fits plan (site_in plan node).head.body) idle;
}
  where
    act : Act
    act = act_of (replicate (length plan) acts.Idle) node

    idle : act ≡ acts.Idle
    idle = get_or-replicate (length plan) node acts.Idle acts.Idle within

pub parts_at_rest : (plan : List Site) → IsParts plan (first_cells plan) (replicate (length plan) acts.Idle)
parts_at_rest plan = record {
  all_cells = long_first_cells plan;
  all_acts = length-replicate (length plan) acts.Idle;
  nodes = node_at_rest plan;
}

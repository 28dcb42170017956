-- A write of one of a node's cells is a change of one field of its record.
use Rattle.std.proofs.Common.{◌≡◌, ◌≢◌, ℕ, ◌+◌, ◌<◌, ◌≤◌, List, length, set, drop, ap, sym, ◌∙◌, arith}
use Rattle.std.proofs.lemmas.List.{get_or-set_same, get_or-set_other, length-set}
use Rattle.px_value.specs.declared.value.Value.{Value}
use Rattle.px_value.specs.declared.value.Value.TheVariants as values
use Rattle.px_core.specs.Fit.{cells_of_site, AreDistinct}
use Rattle.px_core.specs.Plan.{Site}
use Rattle.px_sem.specs.Events.{with_record}
use Rattle.px_sem.specs.World.{Action, NodeRecord, LookState, Report, record_at}
use Rattle.px_flat.specs.declared.act.Act.{Act}
use Rattle.px_flat.specs.declared.act.Act.TheVariants as under_way
use Rattle.px_flat.specs.Layout.{variable_cells, first_cell, node_cell, state_cell, handle_cell, acknowledgement_cell, all_cells}
use Rattle.px_flat.specs.Numbered.{held}
use Rattle.px_flat.specs.Parts.{values_in, record_in, world_of, action_in, act_of, state_in, outcome_in, failure_in}
use Rattle.px_flat.specs.Row.{site_in}
use Rattle.px_flat.proofs.Changes.{values_in-same, world_of-changed}
use Rattle.px_flat.proofs.Variables.{cells_within}
use Rattle.px_flat.proofs.Worlds.{record_at-world_of}

-- a write behind the variables leaves those of each node
variables_stay : (plan : List Site) (cells : List Value) (cell : ℕ) (value : Value) (node : ℕ) → node < length plan
    → variable_cells plan ≤ cell
    → values_in (site_in plan node).head.variables (drop (first_cell plan node) (set cells cell value))
    ≡ values_in (site_in plan node).head.variables (drop (first_cell plan node) cells)
variables_stay plan cells cell value node within behind =
    let first : ℕ = first_cell plan node in
    let room : first + cells_of_site (site_in plan node) ≤ variable_cells plan = cells_within plan node within in
    values_in-same (site_in plan node).head.variables first (set cells cell value) cells (length-set cells cell value)
    (λ i few. get_or-set_other cells cell (first + i) value values.Unknown (λ is. absurd (omega (arith, few, is))))

-- a write of a cell that is none of a node's own changes no more of its record than its variables
pub variables_alone : (plan : List Site) (cells : List Value) (acts : List Act) (cell : ℕ) (value : Value) (node : ℕ)
    (variables : List (List Value)) → ((at : ℕ) → at < 5 → node_cell plan node + at ≢ cell)
    → values_in (site_in plan node).head.variables (drop (first_cell plan node) (set cells cell value)) ≡ variables
    → record_in plan (set cells cell value) acts node ≡ record (record_in plan cells acts node) { variables = variables }
variables_alone plan cells acts cell value node variables apart are = λ i. record {
  state = state_in (first i);
  outcome = outcome_in (other 1 (omega arith) i);
  failure = failure_in (other 2 (omega arith) i);
  variables = are i;
  action = action_in (act_of acts node) (other 3 (omega arith) i) (other 4 (omega arith) i);
}
  where
    other : (at : ℕ) → at < 5
        → held (set cells cell value) (node_cell plan node + at) ≡ held cells (node_cell plan node + at)
    other at few = get_or-set_other cells cell (node_cell plan node + at) value values.Unknown (apart at few)

    first : held (set cells cell value) (state_cell plan node) ≡ held cells (state_cell plan node)
    first = get_or-set_other cells cell (state_cell plan node) value values.Unknown (λ is. apart 0 (omega arith) (omega (arith, is)))

-- a write of a cell of one node leaves the record of every other
others_stay : (plan : List Site) (cells : List Value) (acts : List Act) (node part : ℕ) (value : Value) → part < 5
    → (other : ℕ) → other < length plan → other ≢ node
    → record_in plan (set cells (node_cell plan node + part) value) acts other ≡ record_in plan cells acts other
others_stay plan cells acts node part value small other within apart =
    variables_alone plan cells acts (node_cell plan node + part) value other
    (values_in (site_in plan other).head.variables (drop (first_cell plan other) cells)) (λ at few. omega arith)
    (variables_stay plan cells (node_cell plan node + part) value other within (omega arith))

-- what else a node has in its cells
kept : (plan : List Site) (cells : List Value) (node part at : ℕ) (value : Value) → at ≢ part
    → held (set cells (node_cell plan node + part) value) (node_cell plan node + at) ≡ held cells (node_cell plan node + at)
kept plan cells node part at value apart =
    get_or-set_other cells (node_cell plan node + part) (node_cell plan node + at) value values.Unknown (λ is. apart (omega arith))

state_kept : (plan : List Site) (cells : List Value) (node part : ℕ) (value : Value) → 0 < part
    → held (set cells (node_cell plan node + part) value) (state_cell plan node) ≡ held cells (state_cell plan node)
state_kept plan cells node part value some =
    get_or-set_other cells (node_cell plan node + part) (state_cell plan node) value values.Unknown (λ is. absurd (omega arith))

written_there : (plan : List Site) (cells : List Value) (node part : ℕ) (value : Value) → node < length plan → part < 5
    → length cells ≡ all_cells plan
    → held (set cells (node_cell plan node + part) value) (node_cell plan node + part) ≡ value
written_there plan cells node part value within small all =
    get_or-set_same cells (node_cell plan node + part) value values.Unknown (omega arith)

-- where a write of the handle or of the acknowledgement makes this action, the node has it
action_written : (plan : List Site) (cells : List Value) (reports : List (LookState × Report)) (acts : List Act)
    (node part : ℕ) (value : Value) (made : Action) → AreDistinct plan → node < length plan → 2 < part → part < 5
    → action_in (act_of acts node) (held (set cells (node_cell plan node + part) value) (handle_cell plan node))
    (held (set cells (node_cell plan node + part) value) (acknowledgement_cell plan node)) ≡ made
    → world_of plan (set cells (node_cell plan node + part) value) reports acts
    ≡ with_record (world_of plan cells reports acts) (site_in plan node).path
    (record (record_at (world_of plan cells reports acts) (site_in plan node).path) { action = made })
action_written plan cells reports acts node part value made distinct within behind small are =
    let path : List ℕ = (site_in plan node).path in
    let now : record_in plan (set cells (node_cell plan node + part) value) acts node
    ≡ record (record_in plan cells acts node) { action = made } = λ i. record {
      state = state_in (state_kept plan cells node part value (omega (arith, behind)) i);
      outcome = outcome_in (kept plan cells node part 1 value (λ same. absurd (omega (arith, same, behind))) i);
      failure = failure_in (kept plan cells node part 2 value (λ same. absurd (omega (arith, same, behind))) i);
      variables = variables_stay plan cells (node_cell plan node + part) value node within (omega arith) i;
      action = are i;
    } in
    world_of-changed plan cells (set cells (node_cell plan node + part) value) reports acts acts node distinct within
    (others_stay plan cells acts node part value small)
    ∙ ap (with_record (world_of plan cells reports acts) path) now
    ∙ ap (λ (r : NodeRecord). with_record (world_of plan cells reports acts) path (record r { action = made }))
    (sym (record_at-world_of plan cells reports acts node distinct within))

-- the handle, which is in the action
pub handle_written : (plan : List Site) (cells : List Value) (reports : List (LookState × Report)) (acts : List Act)
    (node : ℕ) (value : Value) → AreDistinct plan → node < length plan → length cells ≡ all_cells plan
    → world_of plan (set cells (handle_cell plan node) value) reports acts
    ≡ with_record (world_of plan cells reports acts) (site_in plan node).path
    (record (record_at (world_of plan cells reports acts) (site_in plan node).path)
    { action = action_in (act_of acts node) value (held cells (acknowledgement_cell plan node)) })
handle_written plan cells reports acts node value distinct within all =
    action_written plan cells reports acts node 3 value
    (action_in (act_of acts node) value (held cells (acknowledgement_cell plan node))) distinct within (omega arith)
    (omega arith) (λ i. action_in (act_of acts node) (written_there plan cells node 3 value within (omega arith) all i)
    (kept plan cells node 3 4 value (λ is. absurd (omega arith)) i))

-- the acknowledgement, which is in the action
pub acknowledgement_written : (plan : List Site) (cells : List Value) (reports : List (LookState × Report))
    (acts : List Act) (node : ℕ) (value : Value) → AreDistinct plan → node < length plan → length cells ≡ all_cells plan
    → world_of plan (set cells (acknowledgement_cell plan node) value) reports acts
    ≡ with_record (world_of plan cells reports acts) (site_in plan node).path
    (record (record_at (world_of plan cells reports acts) (site_in plan node).path)
    { action = action_in (act_of acts node) (held cells (handle_cell plan node)) value })
acknowledgement_written plan cells reports acts node value distinct within all =
    action_written plan cells reports acts node 4 value
    (action_in (act_of acts node) (held cells (handle_cell plan node)) value) distinct within (omega arith) (omega arith)
    (λ i. action_in (act_of acts node) (kept plan cells node 4 3 value (λ is. absurd (omega arith)) i)
    (written_there plan cells node 4 value within (omega arith) all i))

-- what is under way
pub act_put : (plan : List Site) (cells : List Value) (reports : List (LookState × Report)) (acts : List Act)
    (node : ℕ) (act : Act) → AreDistinct plan → node < length plan → length acts ≡ length plan
    → world_of plan cells reports (set acts node act)
    ≡ with_record (world_of plan cells reports acts) (site_in plan node).path
    (record (record_at (world_of plan cells reports acts) (site_in plan node).path)
    { action = action_in act (held cells (handle_cell plan node)) (held cells (acknowledgement_cell plan node)) })
act_put plan cells reports acts node act distinct within all =
    let path : List ℕ = (site_in plan node).path in
    let change : NodeRecord → NodeRecord = λ (r : NodeRecord). record r
    { action = action_in act (held cells (handle_cell plan node)) (held cells (acknowledgement_cell plan node)) } in
    let there : node < length acts = omega arith in
    world_of-changed plan cells cells reports acts (set acts node act) node distinct within
    (λ other inside apart. ap (λ (act : Act). record (record_in plan cells acts other)
    { action = action_in act (held cells (handle_cell plan other)) (held cells (acknowledgement_cell plan other)) })
    (get_or-set_other acts node other act under_way.Idle apart))
    ∙ ap (λ (act : Act). with_record (world_of plan cells reports acts) path (record (record_in plan cells acts node)
    { action = action_in act (held cells (handle_cell plan node)) (held cells (acknowledgement_cell plan node)) }))
    (get_or-set_same acts node act under_way.Idle there)
    ∙ ap (λ (r : NodeRecord). with_record (world_of plan cells reports acts) path (change r))
    (sym (record_at-world_of plan cells reports acts node distinct within))

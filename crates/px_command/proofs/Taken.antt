-- What taking an event comes to, for each row of the table and where it does not count.
use Rattle.std.proofs.Common.{◌≡◌, ℕ, ◌<◌, true, false, ◌||◌, ◌&&◌, List, length, set, refl, ap, sym, subst, ◌∙◌, Some, None, arith}
use Rattle.std.proofs.lemmas.Bool.{and_parts}
use Rattle.std.proofs.lemmas.Grind.{common_steps}
use Rattle.px_value.specs.declared.enums.Handle.{Handle}
use Rattle.px_value.specs.declared.enums.NodeState.{NodeState}
use Rattle.px_value.specs.declared.value.Value.{Value}
use Rattle.px_value.specs.declared.value.Value.TheVariants as values
use Rattle.px_core.specs.declared.variable.VarKind.{VarKind}
use Rattle.px_core.specs.Plan as core
use Rattle.px_core.specs.Plan.{Site, BodyData}
use Rattle.px_event.specs.declared.event.Event.{Event}
use Rattle.px_event.specs.declared.event.Event.TheVariants as events
use Rattle.px_sem.specs.Effects.{as_kind}
use Rattle.px_sem.specs.Events as semantics
use Rattle.px_sem.specs.Events.{take}
use Rattle.px_sem.specs.Guards.{is_executing, is_failing}
use Rattle.px_sem.specs.World.{LookState, Report, World}
use Rattle.px_cells.specs.Marked.{Contents, written}
use Rattle.px_flat.specs.declared.act.Act.{Act}
use Rattle.px_flat.specs.declared.act.Act.TheVariants as under_way
use Rattle.px_flat.specs.declared.flat.Flat.{Flat}
use Rattle.px_flat.specs.Flat.{plan_of}
use Rattle.px_flat.specs.Layout.{state_cell, handle_cell, acknowledgement_cell}
use Rattle.px_flat.specs.Numbered.{held, numbered_body}
use Rattle.px_flat.specs.Parts.{IsParts, world_of, act_of, state_in}
use Rattle.px_flat.specs.Row.{site_in}
use Rattle.px_flat.proofs.Tables.{flat_sound}
use Rattle.px_command.specs.Counting.{is_update, handle_counts, return_counts, abort_done_counts, acknowledgement_counts}
use Rattle.px_command.specs.Results.{aborted, result_slot}
use Rattle.px_command.specs.Taking.{IsTaken}
use Rattle.px_command.proofs.Nodes.{variable_kept}
use Rattle.px_command.proofs.Returns.{flat_differs, return_early, return_nowhere, return_taken, slot_within}
use Rattle.px_command.proofs.Rows.{handle_ignored, handle_taken, handle_parts, abort_ignored, abort_taken, abort_parts, acknowledged_ignored, acknowledged_taken, acknowledged_parts}

-- ---- from worlds to parts

-- nothing changes
pub unchanged : (plan : List Site) (event : Event) (cells : Contents Value) (acts : Contents Act)
    → IsParts plan cells.values acts.values
    → ((reports : List (LookState × Report)) → take plan (world_of plan cells.values reports acts.values) event
    ≡ world_of plan cells.values reports acts.values)
    → IsTaken plan event cells acts cells acts
unchanged plan event cells acts parts same = record {
  nodes = λ reports. ap (λ (world : World). world.nodes) (sym (same reports));
  parts = parts;
  cells_marked = refl;
  acts_marked = refl;
}

-- a cell, an act, or both are written
both_written : (plan : List Site) (event : Event) (cells new_cells : Contents Value) (acts new_acts : Contents Act)
    (new_values : List Value) (new_under_way : List Act)
    → new_cells.values ≡ new_values → new_acts.values ≡ new_under_way
    → new_cells.marked ≡ cells.marked → new_acts.marked ≡ acts.marked
    → IsParts plan new_values new_under_way
    → ((reports : List (LookState × Report)) → world_of plan new_values reports new_under_way
    ≡ take plan (world_of plan cells.values reports acts.values) event)
    → IsTaken plan event cells acts new_cells new_acts
both_written plan event cells new_cells acts new_acts new_values new_under_way values_are acts_are cells_marked acts_marked parts taken =
    record {
      nodes = λ reports.
          ap (λ values. (world_of plan values reports new_acts.values).nodes) values_are
          ∙ ap (λ acts. (world_of plan new_values reports acts).nodes) acts_are
          ∙ ap (λ (world : World). world.nodes) (taken reports);
      parts = subst (λ values. IsParts plan values new_acts.values) (sym values_are)
          (subst (IsParts plan new_values) (sym acts_are) parts);
      cells_marked = cells_marked;
      acts_marked = acts_marked;
    }

-- ---- the rows

-- the state of a node, by its cell
abbrev pub state_at : Flat → Contents Value → ℕ → NodeState
state_at flat cells node = state_in (held cells.values (state_cell (plan_of flat) node))

pub handle_row : (flat : Flat) (cells new_cells : Contents Value) (acts : Contents Act) (node : ℕ) (handle : Handle)
    → node < length (plan_of flat) → IsParts (plan_of flat) cells.values acts.values
    → handle_counts (state_at flat cells node) (act_of acts.values node) ≡ true
    → new_cells ≡ written cells (handle_cell (plan_of flat) node) (values.Handle handle)
    → IsTaken (plan_of flat) (events.Handle (site_in (plan_of flat) node).path handle) cells acts new_cells acts
handle_row flat cells new_cells acts node handle within parts counts is =
    let plan = plan_of flat in
    both_written plan (events.Handle (site_in plan node).path handle) cells new_cells acts acts
    (set cells.values (handle_cell plan node) (values.Handle handle)) acts.values
    (ap (λ (c : Contents Value). c.values) is) refl (ap (λ (c : Contents Value). c.marked) is) refl
    (handle_parts plan cells.values acts.values node handle within parts (and_parts _ _ counts).1)
    (λ reports. handle_taken plan cells.values reports acts.values node (flat_sound flat) within handle parts counts)

pub no_handle : (flat : Flat) (cells : Contents Value) (acts : Contents Act) (node : ℕ) (handle : Handle)
    → node < length (plan_of flat) → IsParts (plan_of flat) cells.values acts.values
    → handle_counts (state_at flat cells node) (act_of acts.values node) ≡ false
    → IsTaken (plan_of flat) (events.Handle (site_in (plan_of flat) node).path handle) cells acts cells acts
no_handle flat cells acts node handle within parts counts =
    unchanged (plan_of flat) (events.Handle (site_in (plan_of flat) node).path handle) cells acts parts
    (λ reports. handle_ignored (plan_of flat) cells.values reports acts.values node (flat_sound flat) within handle counts)

pub abort_row : (flat : Flat) (cells : Contents Value) (acts new_acts : Contents Act) (node : ℕ)
    → node < length (plan_of flat) → IsParts (plan_of flat) cells.values acts.values
    → abort_done_counts (state_at flat cells node) (act_of acts.values node) ≡ true
    → new_acts ≡ written acts node (aborted (act_of acts.values node))
    → IsTaken (plan_of flat) (events.AbortDone (site_in (plan_of flat) node).path) cells acts cells new_acts
abort_row flat cells acts new_acts node within parts counts is =
    let plan = plan_of flat in
    both_written plan (events.AbortDone (site_in plan node).path) cells cells acts new_acts
    cells.values (set acts.values node (aborted (act_of acts.values node)))
    refl (ap (λ (c : Contents Act). c.values) is) refl (ap (λ (c : Contents Act). c.marked) is)
    (abort_parts plan cells.values acts.values node within parts)
    (λ reports. abort_taken plan cells.values reports acts.values node (flat_sound flat) within parts counts)

pub no_abort : (flat : Flat) (cells : Contents Value) (acts : Contents Act) (node : ℕ)
    → node < length (plan_of flat) → IsParts (plan_of flat) cells.values acts.values
    → abort_done_counts (state_at flat cells node) (act_of acts.values node) ≡ false
    → IsTaken (plan_of flat) (events.AbortDone (site_in (plan_of flat) node).path) cells acts cells acts
no_abort flat cells acts node within parts counts =
    unchanged (plan_of flat) (events.AbortDone (site_in (plan_of flat) node).path) cells acts parts
    (λ reports. abort_ignored (plan_of flat) cells.values reports acts.values node (flat_sound flat) within counts)

-- an update has the body of one, by number too
update_alike : (plan : List Site) (body : BodyData) → semantics.is_update body ≡ is_update (numbered_body plan body)
update_alike plan core.Nothing = refl
update_alike plan (core.Assign target value) = refl
update_alike plan (core.Command name args result) = refl
update_alike plan (core.Update pairs) = refl

pub acknowledgement_row : (flat : Flat) (cells new_cells : Contents Value) (acts new_acts : Contents Act) (node : ℕ)
    → node < length (plan_of flat) → IsParts (plan_of flat) cells.values acts.values
    → acknowledgement_counts (state_at flat cells node)
    (numbered_body (plan_of flat) (site_in (plan_of flat) node).head.body) ≡ true
    → new_cells ≡ written cells (acknowledgement_cell (plan_of flat) node) (values.Boolean true)
    → new_acts ≡ written acts node under_way.Updated
    → IsTaken (plan_of flat) (events.Acknowledged (site_in (plan_of flat) node).path) cells acts new_cells new_acts
acknowledgement_row flat cells new_cells acts new_acts node within parts counts cells_is acts_is =
    let plan = plan_of flat in
    let body = (site_in plan node).head.body in
    let alike : (semantics.is_update body && (is_executing (state_at flat cells node) || is_failing (state_at flat cells node)))
    ≡ true =
    ap (λ b. b && (is_executing (state_at flat cells node) || is_failing (state_at flat cells node))) (update_alike plan body)
    ∙ counts in
    both_written plan (events.Acknowledged (site_in plan node).path) cells new_cells acts new_acts
    (set cells.values (acknowledgement_cell plan node) (values.Boolean true)) (set acts.values node under_way.Updated)
    (ap (λ (c : Contents Value). c.values) cells_is) (ap (λ (c : Contents Act). c.values) acts_is)
    (ap (λ (c : Contents Value). c.marked) cells_is) (ap (λ (c : Contents Act). c.marked) acts_is)
    (acknowledged_parts plan cells.values acts.values node within parts (and_parts (semantics.is_update body) _ alike).0)
    (λ reports. acknowledged_taken plan cells.values reports acts.values node (flat_sound flat) within parts alike)

pub no_acknowledgement : (flat : Flat) (cells : Contents Value) (acts : Contents Act) (node : ℕ)
    → node < length (plan_of flat) → IsParts (plan_of flat) cells.values acts.values
    → acknowledgement_counts (state_at flat cells node)
    (numbered_body (plan_of flat) (site_in (plan_of flat) node).head.body) ≡ false
    → IsTaken (plan_of flat) (events.Acknowledged (site_in (plan_of flat) node).path) cells acts cells acts
no_acknowledgement flat cells acts node within parts counts =
    grind (arith, common_steps, unchanged, acknowledged_ignored, flat_sound, update_alike)

pub return_row : (flat : Flat) (cells new_cells : Contents Value) (acts : Contents Act) (node : ℕ) (given : Value)
    (slot : ℕ × VarKind)
    → node < length (plan_of flat) → IsParts (plan_of flat) cells.values acts.values
    → return_counts (state_at flat cells node) ≡ true
    → result_slot (numbered_body (plan_of flat) (site_in (plan_of flat) node).head.body) (act_of acts.values node) ≡ Some slot
    → new_cells ≡ written cells slot.0 (as_kind slot.1 given)
    → IsTaken (plan_of flat) (events.Return (site_in (plan_of flat) node).path given) cells acts new_cells acts
return_row flat cells new_cells acts node given slot within parts counts there is =
    let plan = plan_of flat in
    both_written plan (events.Return (site_in plan node).path given) cells new_cells acts acts
    (set cells.values slot.0 (as_kind slot.1 given)) acts.values
    (ap (λ (c : Contents Value). c.values) is) refl (ap (λ (c : Contents Value). c.marked) is) refl
    (variable_kept plan cells.values acts.values slot.0 (as_kind slot.1 given)
    (slot_within plan cells.values acts.values node slot (flat_sound flat) within parts there) parts)
    (λ reports. return_taken plan cells.values reports acts.values node given slot (flat_sound flat) (flat_differs flat)
    within parts counts there)

pub no_return : (flat : Flat) (cells : Contents Value) (acts : Contents Act) (node : ℕ) (given : Value)
    → node < length (plan_of flat) → IsParts (plan_of flat) cells.values acts.values
    → return_counts (state_at flat cells node) ≡ false
    → IsTaken (plan_of flat) (events.Return (site_in (plan_of flat) node).path given) cells acts cells acts
no_return flat cells acts node given within parts counts =
    unchanged (plan_of flat) (events.Return (site_in (plan_of flat) node).path given) cells acts parts
    (λ reports. return_early (plan_of flat) cells.values reports acts.values node given (flat_sound flat) within counts)

pub return_lost : (flat : Flat) (cells : Contents Value) (acts : Contents Act) (node : ℕ) (given : Value)
    → node < length (plan_of flat) → IsParts (plan_of flat) cells.values acts.values
    → result_slot (numbered_body (plan_of flat) (site_in (plan_of flat) node).head.body) (act_of acts.values node) ≡ None
    → IsTaken (plan_of flat) (events.Return (site_in (plan_of flat) node).path given) cells acts cells acts
return_lost flat cells acts node given within parts none =
    unchanged (plan_of flat) (events.Return (site_in (plan_of flat) node).path given) cells acts parts
    (λ reports. return_nowhere (plan_of flat) cells.values reports acts.values node given (flat_sound flat) within none)

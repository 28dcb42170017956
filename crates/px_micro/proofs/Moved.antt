-- What the cells and acts stand for after all that go have moved.
use Rattle.std.proofs.Common.{◌≡◌, ℕ, ◌+◌, ◌<◌, ◌≤◌, true, false, List, length, drop, fold, map, nat_eq, refl, ap, sym, ◌∙◌, subst, arith, Option, Some, None, IsTrue, All, if◌then◌else◌}
use Rattle.std.specs.List.{filter_map, find, zip}
use Rattle.std.specs.Option.{option_map}
use Rattle.std.proofs.lemmas.Bool.{eqb-true}
use Rattle.px_value.specs.declared.enums.Failure.{Failure}
use Rattle.px_value.specs.declared.enums.Outcome.{Outcome}
use Rattle.px_value.specs.declared.value.Value.{Value}
use Rattle.px_value.specs.declared.value.Value.TheVariants as values
use Rattle.px_value.proofs.General.{All-unmap, find-map, found_has}
use Rattle.px_core.specs.Fit.{cells_of_site}
use Rattle.px_core.specs.Plan.{Site, BodyData, Nothing, Assign, Command, Update, VariableData}
use Rattle.px_sem.specs.declared.guards.Arrival.{Arrival}
use Rattle.px_sem.specs.Conflicts.{transition}
use Rattle.px_sem.specs.Effects.{initial_values, is_initializing, move_kind}
use Rattle.px_sem.specs.Expressions.{outcome_value, failure_value}
use Rattle.px_sem.specs.Step.{micro, next_record, record_after, written_in_step}
use Rattle.px_sem.specs.World.{World, NodeRecord}
use Rattle.px_flat.specs.declared.act.Abort.TheVariants as aborts
use Rattle.px_flat.specs.declared.act.Act.{Act}
use Rattle.px_flat.specs.declared.act.Act.TheVariants as acts
use Rattle.px_flat.specs.Layout.{all_cells, first_cell, state_cell, outcome_cell, failure_cell, handle_cell, acknowledgement_cell, variable_cells}
use Rattle.px_flat.specs.Numbered.{held}
use Rattle.px_flat.specs.Parts.{IsNode, IsParts, action_in, act_of, fits, values_in, record_in, world_of, state_in, outcome_in, failure_in, is_state, is_outcome, is_failure, is_handle_of, is_acknowledgement_of}
use Rattle.px_flat.specs.Row.{site_in}
use Rattle.px_flat.proofs.Changes.{nodes_are, values_in-same}
use Rattle.px_flat.proofs.Tables.{flat_sound}
use Rattle.px_flat.proofs.Variables.{cells_within}
use Rattle.px_command.proofs.Rows.{command_handle}
use Rattle.px_micro.specs.declared.effects.CellWrite.{CellWrite}
use Rattle.px_micro.specs.declared.effects.UnderWay.{UnderWay}
use Rattle.px_micro.specs.declared.effects.UnderWay.TheVariants as under_way
use Rattle.px_parts.specs.declared.parts.Parts.{Parts}
use Rattle.px_micro.specs.declared.sight.Going.{Going}
use Rattle.px_micro.specs.declared.turns.CellValue.{CellValue}
use Rattle.px_micro.specs.declared.turns.Turn.{Turn}
use Rattle.px_micro.specs.declared.turns.Turns.{Turns}
use Rattle.px_micro.specs.Going.{AreAllGoing}
use Rattle.px_micro.specs.Moving.{with_turn, with_turn_act, put_value, put_write}
use Rattle.px_parts.specs.Parts.{AreStanding, plan_in, world_in, record_of}
use Rattle.px_micro.specs.Turns.{action_after, act_after, act_then, begins, effects_in, first_writes, written_in, AreTurns, IsTurn}
use Rattle.px_micro.proofs.Arriving.{Said, said_in, said_after, handle_after, acknowledgement_after, AreWithin, Rise, all_length, all_acts_length, variable_stays, said_then, acts_then}
use Rattle.px_micro.proofs.Beginning.{begun_as, begun_variables, initial_small}
use Rattle.px_micro.proofs.Blocks.{set_length, set_off}
use Rattle.px_micro.proofs.Firsts.{firsts_all}
use Rattle.px_micro.proofs.Goers.{stays}
use Rattle.px_micro.proofs.Hits.{hit_by}
use Rattle.px_micro.proofs.Lists.{pairs_unmap}
use Rattle.px_parts.proofs.Found.{record_is}
use Rattle.px_micro.proofs.Writing.{IsWriteOf, writes_inside, writes_small, written_variables}

-- all that is known of the turns of a step
pub record AreReady (parts : Parts) (made : Turns) : Type 0 where
  pub stand : AreStanding parts
  pub turns : AreTurns parts (map (λ (turn : Turn). turn.going) made.turns.items) made
  pub going : AreAllGoing (plan_in parts) (world_in parts) (map (λ (turn : Turn). turn.going) made.turns.items)

abbrev goers : Turns → List Going
goers made = map (λ (turn : Turn). turn.going) made.turns.items

abbrev cells_written : Parts → Turns → List Value
cells_written parts made = fold put_write parts.cells.contents.values made.writes.items

abbrev cells_begun : Parts → Turns → List Value
cells_begun parts made = fold put_value (cells_written parts made) made.initial.items

abbrev pub cells_after : Parts → Turns → List Value
cells_after parts made = fold (with_turn (plan_in parts)) (cells_begun parts made) made.turns.items

abbrev pub acts_after : Parts → Turns → List Act
acts_after parts made = fold with_turn_act parts.actions.contents.values made.turns.items

-- ---- all is within the cells

pub writes_within : (parts : Parts) (made : Turns) → AreReady parts made
    → All (λ write. write.cell < variable_cells (plan_in parts)) made.writes.items
writes_within parts made ready =
    subst (All (λ (write : CellWrite). write.cell < variable_cells (plan_in parts))) (sym ready.turns.writes)
    (writes_small (plan_in parts) (first_writes (filter_map (written_in parts) (goers made))) (flat_sound parts.flat)
    (firsts_all (IsWriteOf (plan_in parts)) (filter_map (written_in parts) (goers made))
    (writes_inside parts (goers made) ready.stand ready.going.within)))

pub initial_within : (parts : Parts) (made : Turns) → AreReady parts made
    → All (λ given. given.cell < variable_cells (plan_in parts)) made.initial.items
initial_within parts made ready =
    subst (All (λ (given : CellValue). given.cell < variable_cells (plan_in parts))) (sym ready.turns.initial)
    (initial_small parts (goers made) ready.going.within)

pub written_length : (parts : Parts) (made : Turns) → AreReady parts made
    → length (cells_written parts made) ≡ all_cells (plan_in parts)
written_length parts made ready =
    set_length (λ (write : CellWrite). write.cell) (λ (write : CellWrite). write.value) made.writes.items parts.cells.contents.values ∙ ready.stand.all_cells

pub begun_all : (parts : Parts) (made : Turns) → AreReady parts made
    → length (cells_begun parts made) ≡ all_cells (plan_in parts)
begun_all parts made ready =
    set_length (λ (one : CellValue). one.cell) (λ (one : CellValue). one.value) made.initial.items (cells_written parts made) ∙ written_length parts made ready

pub turns_within : (parts : Parts) (made : Turns) → AreReady parts made → AreWithin (plan_in parts) made.turns.items
turns_within parts made ready = λ k d few. (ready.turns.each k d few).within

turns_rise : (parts : Parts) (made : Turns) → AreReady parts made → Rise made.turns.items
turns_rise parts made ready =
    pairs_unmap (λ (a b : Going). a.node < b.node) (λ (turn : Turn). turn.going) made.turns.items ready.going.rise

-- ---- the cells of a node before its turn

said_before : (parts : Parts) (made : Turns) (node : ℕ) → AreReady parts made
    → said_in (plan_in parts) node (cells_begun parts made) ≡ said_in (plan_in parts) node parts.cells.contents.values
said_before parts made node ready = λ i. record {
  state = same (state_cell plan node) (omega arith) i;
  outcome = same (outcome_cell plan node) (omega arith) i;
  failure = same (failure_cell plan node) (omega arith) i;
  handle = same (handle_cell plan node) (omega arith) i;
  acknowledgement = same (acknowledgement_cell plan node) (omega arith) i;
}
  where
    plan : List Site
    plan = plan_in parts

    same : (cell : ℕ) → variable_cells plan ≤ cell
        → held (cells_begun parts made) cell ≡ held parts.cells.contents.values cell
    same cell far =
        set_off (λ (one : CellValue). one.cell) (λ (one : CellValue). one.value) made.initial.items (cells_written parts made) (variable_cells plan) cell (initial_within parts made ready) far
        ∙ set_off (λ (write : CellWrite). write.cell) (λ (write : CellWrite). write.value) made.writes.items parts.cells.contents.values (variable_cells plan) cell (writes_within parts made ready) far

-- ---- the variables of a node

abbrev own : Parts → ℕ → List VariableData
own parts node = (site_in (plan_in parts) node).head.variables

-- as all that go write them
abbrev as_written : Parts → ℕ → List (List Value) → List (List Value)
as_written parts node old =
    map (written_in_step (plan_in parts) (world_in parts) (site_in (plan_in parts) node)) (zip (own parts node) old)

variables_then : (parts : Parts) (made : Turns) (node : ℕ) (found : Option Turn) → AreReady parts made
    → node < length (plan_in parts) → find (λ turn. nat_eq turn.going.node node) made.turns.items ≡ found
    → values_in (own parts node) (drop (first_cell (plan_in parts) node) (cells_after parts made))
    ≡ begun_as parts (option_map (λ (turn : Turn). turn.going) found) (map initial_values (own parts node))
    (as_written parts node (record_of parts node).variables)
variables_then parts made node found ready here is =
    values_in-same (own parts node) first (cells_after parts made) (cells_begun parts made) (long ∙ sym (begun_all parts made ready))
    (λ i few.
    variable_stays plan made.turns.items (cells_begun parts made) (first + i) (turns_within parts made ready)
    (begun_all parts made ready) (omega (arith, inside, few)))
    ∙ ap (λ (initial : List CellValue). values_in (own parts node) (drop first (fold put_value (cells_written parts made) initial)))
    ready.turns.initial
    ∙ begun_variables parts (goers made) (cells_written parts made) node (option_map (λ (turn : Turn). turn.going) found)
    ready.going.rise ready.going.within (written_length parts made ready) here
    (find-map (λ (one : Going). nat_eq one.node node) (λ (turn : Turn). turn.going) made.turns.items
    ∙ ap (option_map (λ (turn : Turn). turn.going)) is)
    ∙ ap (begun_as parts (option_map (λ (turn : Turn). turn.going) found) (map initial_values (own parts node)))
    (ap (λ (writes : List CellWrite). values_in (own parts node) (drop first (fold put_write parts.cells.contents.values writes)))
    ready.turns.writes
    ∙ written_variables parts (goers made) parts.cells.contents.values node ready.stand ready.going ready.stand.all_cells here)
  where
    plan : List Site
    plan = plan_in parts

    first : ℕ
    first = first_cell plan node

    inside : first + cells_of_site (site_in plan node) ≤ variable_cells plan
    inside = cells_within plan node here

    long : length (cells_after parts made) ≡ all_cells plan
    long = all_length plan made.turns.items (cells_begun parts made) (turns_within parts made ready) (begun_all parts made ready)

-- ---- one node

-- a record, by what the cells of the node hold
abbrev from_said : Said → Act → List (List Value) → NodeRecord
from_said said act variables = record {
  state = state_in said.state;
  outcome = outcome_in said.outcome;
  failure = failure_in said.failure;
  variables = variables;
  action = action_in act said.handle said.acknowledgement;
}

-- what the cells of a node hold is right
record IsRight (plan : List Site) (node : ℕ) (said : Said) (under : Act) : Type 0 where
  state : IsTrue (is_state said.state)
  outcome : IsTrue (is_outcome said.outcome)
  failure : IsTrue (is_failure said.failure)
  handle : IsTrue (is_handle_of under said.handle)
  acknowledgement : IsTrue (is_acknowledgement_of under said.acknowledgement)
  act : IsTrue (fits plan (site_in plan node).head.body under)

was_right : (parts : Parts) (node : ℕ) → AreStanding parts → node < length (plan_in parts)
    → IsRight (plan_in parts) node (said_in (plan_in parts) node parts.cells.contents.values)
    (act_of parts.actions.contents.values node)
was_right parts node stand here =
    let is = stand.nodes node here in
    record {
      state = is.state;
      outcome = is.outcome;
      failure = is.failure;
      handle = is.handle;
      acknowledgement = is.acknowledgement;
      act = is.act;
    }

-- the parts of a node after the step
record IsAfter (parts : Parts) (made : Turns) (node : ℕ) : Type 0 where
  record_is : record_in (plan_in parts) (cells_after parts made) (acts_after parts made) node
      ≡ record_after (plan_in parts) (world_in parts) (site_in (plan_in parts) node)
      (transition (plan_in parts) (world_in parts) (site_in (plan_in parts) node))
  node_is : IsNode (plan_in parts) (cells_after parts made) (acts_after parts made) node

-- by what the cells of the node hold, and what they say
after_by : (parts : Parts) (made : Turns) (node : ℕ) (said : Said) (act : Act) (variables : List (List Value))
    (arrival : Option Arrival)
    → said_in (plan_in parts) node (cells_after parts made) ≡ said → act_of (acts_after parts made) node ≡ act
    → values_in (own parts node) (drop (first_cell (plan_in parts) node) (cells_after parts made)) ≡ variables
    → transition (plan_in parts) (world_in parts) (site_in (plan_in parts) node) ≡ arrival
    → from_said said act variables ≡ record_after (plan_in parts) (world_in parts) (site_in (plan_in parts) node) arrival
    → IsRight (plan_in parts) node said act → IsAfter parts made node
after_by parts made node said act variables arrival said_is act_is variables_are goes are right =
    let plan : List Site = plan_in parts in
    let now : World = world_in parts in
    let still : IsRight plan node (said_in plan node (cells_after parts made)) (act_of (acts_after parts made) node) =
    subst (λ said. IsRight plan node said (act_of (acts_after parts made) node)) (sym said_is)
    (subst (IsRight plan node said) (sym act_is) right) in
    record {
      record_is = (λ i. from_said (said_is i) (act_is i) (variables_are i)) ∙ are
          ∙ ap (record_after plan now (site_in plan node)) (sym goes);
      node_is = record {
        state = still.state;
        outcome = still.outcome;
        failure = still.failure;
        handle = still.handle;
        acknowledgement = still.acknowledgement;
        act = still.act;
      };
    }

-- a node that stays
abbrev stays_as : Parts → ℕ → NodeRecord → NodeRecord
stays_as parts node r = record {
  state = r.state;
  outcome = r.outcome;
  failure = r.failure;
  variables = as_written parts node r.variables;
  action = r.action;
}

node_stays : (parts : Parts) (made : Turns) (node : ℕ) → AreReady parts made → node < length (plan_in parts)
    → find (λ turn. nat_eq turn.going.node node) made.turns.items ≡ None → IsAfter parts made node
node_stays parts made node ready here is =
    after_by parts made node (said_in plan node parts.cells.contents.values) (act_of parts.actions.contents.values node)
    (as_written parts node (record_of parts node).variables) None
    (said_then plan made.turns.items (cells_begun parts made) node (turns_within parts made ready) (turns_rise parts made ready)
    (begun_all parts made ready)
    ∙ ap (hit_by said_after (said_in plan node (cells_begun parts made))) is ∙ said_before parts made node ready)
    (acts_then plan made.turns.items parts.actions.contents.values node (turns_within parts made ready)
    (turns_rise parts made ready) ready.stand.all_acts
    ∙ ap (hit_by (λ (turn : Turn). act_then turn.under_way) (act_of parts.actions.contents.values node)) is)
    (variables_then parts made node None ready here is)
    (stays plan (world_in parts) (goers made) node ready.going here
    (find-map (λ (one : Going). nat_eq one.node node) (λ (turn : Turn). turn.going) made.turns.items
    ∙ ap (option_map (λ (turn : Turn). turn.going)) is))
    (ap (stays_as parts node) (sym (record_is parts node here)))
    (was_right parts node ready.stand here)
  where
    plan : List Site
    plan = plan_in parts

-- ---- a node that goes

outcome_said : (outcome : Option Outcome) → outcome_in (outcome_value outcome) ≡ outcome
outcome_said None = refl
outcome_said (Some outcome) = refl

failure_said : (failure : Option Failure) → failure_in (failure_value failure) ≡ failure
failure_said None = refl
failure_said (Some failure) = refl

outcome_right : (outcome : Option Outcome) → is_outcome (outcome_value outcome) ≡ true
outcome_right None = refl
outcome_right (Some outcome) = refl

failure_right : (failure : Option Failure) → is_failure (failure_value failure) ≡ true
failure_right None = refl
failure_right (Some failure) = refl

unknown_right : (act : Act) → is_handle_of act values.Unknown ≡ true
unknown_right acts.Idle = refl
unknown_right acts.Unwritten = refl
unknown_right (acts.Scalar old) = refl
unknown_right (acts.Element index old) = refl
unknown_right (acts.Sent index abort) = refl
unknown_right acts.Updated = refl

false_right : (act : Act) → is_acknowledgement_of act (values.Boolean false) ≡ true
false_right acts.Idle = refl
false_right acts.Unwritten = refl
false_right (acts.Scalar old) = refl
false_right (acts.Element index old) = refl
false_right (acts.Sent index abort) = refl
false_right acts.Updated = refl

-- a node that has a command has no update under way
acknowledgement_still : (plan : List Site) (body : BodyData) (act : Act) (index : Option ℕ) (acknowledgement : Value)
    → fits plan body act ≡ true → fits plan body (acts.Sent index aborts.Sent) ≡ true
    → is_acknowledgement_of act acknowledgement ≡ true
    → is_acknowledgement_of (acts.Sent index aborts.Sent) acknowledgement ≡ true
acknowledgement_still plan body acts.Idle index acknowledgement fit new is = is
acknowledgement_still plan body acts.Unwritten index acknowledgement fit new is = is
acknowledgement_still plan body (acts.Scalar old) index acknowledgement fit new is = is
acknowledgement_still plan body (acts.Element place old) index acknowledgement fit new is = is
acknowledgement_still plan body (acts.Sent before abort) index acknowledgement fit new is = is
acknowledgement_still plan Nothing acts.Updated index acknowledgement fit new is = absurd (cc fit)
acknowledgement_still plan (Assign target right) acts.Updated index acknowledgement fit new is = absurd (cc fit)
acknowledgement_still plan (Command name args result) acts.Updated index acknowledgement fit new is = absurd (cc fit)
acknowledgement_still plan (Update pairs) acts.Updated index acknowledgement fit new is = absurd (cc new)

turn_right : (parts : Parts) (turn : Turn) → AreStanding parts → IsTurn parts turn
    → IsRight (plan_in parts) turn.going.node
    (said_after turn (said_in (plan_in parts) turn.going.node parts.cells.contents.values))
    (act_then turn.under_way (act_of parts.actions.contents.values turn.going.node))
turn_right parts turn stand of = record {
  state = refl;
  outcome = outcome_right turn.going.arrival.outcome;
  failure = failure_right turn.going.arrival.failure;
  handle = handle_right turn.under_way of.fits;
  acknowledgement = acknowledgement_right turn.under_way of.fits;
  act = of.fits;
}
  where
    plan : List Site
    plan = plan_in parts

    node : ℕ
    node = turn.going.node

    body : BodyData
    body = (site_in plan node).head.body

    old : Act
    old = act_of parts.actions.contents.values node

    said : Said
    said = said_in plan node parts.cells.contents.values

    was : IsRight plan node said old
    was = was_right parts node stand of.within

    handle_right : (way : UnderWay) → fits plan body (act_after parts node way) ≡ true
        → is_handle_of (act_then way old) (handle_after way said.handle) ≡ true
    handle_right under_way.Kept fit = was.handle
    handle_right (under_way.Begun act) fit = unknown_right act
    handle_right (under_way.Aborting index) fit = command_handle old index aborts.Sent said.handle was.handle

    acknowledgement_right : (way : UnderWay) → fits plan body (act_after parts node way) ≡ true
        → is_acknowledgement_of (act_then way old) (acknowledgement_after way said.acknowledgement) ≡ true
    acknowledgement_right under_way.Kept fit = was.acknowledgement
    acknowledgement_right (under_way.Begun act) fit = false_right act
    acknowledgement_right (under_way.Aborting index) fit =
        acknowledgement_still plan body old index said.acknowledgement was.act fit was.acknowledgement

action_then : (parts : Parts) (node : ℕ) (way : UnderWay)
    → action_in (act_then way (act_of parts.actions.contents.values node))
    (handle_after way (held parts.cells.contents.values (handle_cell (plan_in parts) node)))
    (acknowledgement_after way (held parts.cells.contents.values (acknowledgement_cell (plan_in parts) node)))
    ≡ action_after parts node way
action_then parts node under_way.Kept = refl
action_then parts node (under_way.Begun act) = refl
action_then parts node (under_way.Aborting index) = refl

-- by the node's record before
abbrev goes_as : Parts → Going → NodeRecord → NodeRecord
goes_as parts one r = record {
  state = one.arrival.to;
  outcome = one.arrival.outcome;
  failure = one.arrival.failure;
  variables = if is_initializing (move_kind r.state one.arrival.to) then map initial_values (own parts one.node)
      else as_written parts one.node r.variables;
  action = (effects_in parts one).action;
}

node_goes : (parts : Parts) (made : Turns) (turn : Turn) → AreReady parts made → IsTurn parts turn
    → transition (plan_in parts) (world_in parts) (site_in (plan_in parts) turn.going.node) ≡ Some turn.going.arrival
    → find (λ other. nat_eq other.going.node turn.going.node) made.turns.items ≡ Some turn
    → IsAfter parts made turn.going.node
node_goes parts made turn ready of goes is =
    after_by parts made node (said_after turn (said_in plan node parts.cells.contents.values))
    (act_then turn.under_way (act_of parts.actions.contents.values node))
    (if begins parts turn.going then map initial_values (own parts node)
    else as_written parts node (record_of parts node).variables) (Some turn.going.arrival)
    (said_then plan made.turns.items (cells_begun parts made) node (turns_within parts made ready) (turns_rise parts made ready)
    (begun_all parts made ready)
    ∙ ap (hit_by said_after (said_in plan node (cells_begun parts made))) is
    ∙ ap (said_after turn) (said_before parts made node ready))
    (acts_then plan made.turns.items parts.actions.contents.values node (turns_within parts made ready)
    (turns_rise parts made ready) ready.stand.all_acts
    ∙ ap (hit_by (λ (turn : Turn). act_then turn.under_way) (act_of parts.actions.contents.values node)) is)
    (variables_then parts made node (Some turn) ready of.within is)
    goes
    ((λ i. record {
      state = turn.going.arrival.to;
      outcome = outcome_said turn.going.arrival.outcome i;
      failure = failure_said turn.going.arrival.failure i;
      variables = if begins parts turn.going then map initial_values (own parts node)
          else as_written parts node (record_of parts node).variables;
      action = (action_then parts node turn.under_way ∙ of.action) i;
    })
    ∙ ap (goes_as parts turn.going) (sym (record_is parts node of.within)))
    (turn_right parts turn ready.stand of)
  where
    plan : List Site
    plan = plan_in parts

    node : ℕ
    node = turn.going.node

-- ---- all nodes

each_goes : (parts : Parts) (made : Turns) → AreReady parts made
    → All (λ turn. IsTurn parts turn
    × (transition (plan_in parts) (world_in parts) (site_in (plan_in parts) turn.going.node) ≡ Some turn.going.arrival))
    made.turns.items
each_goes parts made ready = λ k d few. (
  ready.turns.each k d few,
  All-unmap (λ (one : Going). transition (plan_in parts) (world_in parts) (site_in (plan_in parts) one.node) ≡ Some one.arrival)
      (λ (turn : Turn). turn.going) made.turns.items ready.going.each k d few,
)

node_after : (parts : Parts) (made : Turns) (node : ℕ) → AreReady parts made → node < length (plan_in parts)
    → IsAfter parts made node
node_after parts made node ready here = by (find (λ turn. nat_eq turn.going.node node) made.turns.items) refl
  where
    by : (found : Option Turn) → find (λ turn. nat_eq turn.going.node node) made.turns.items ≡ found → IsAfter parts made node
    by None is = node_stays parts made node ready here is
    by (Some turn) is =
        let known = found_has
        (λ (turn : Turn). IsTurn parts turn
        × (transition (plan_in parts) (world_in parts) (site_in (plan_in parts) turn.going.node) ≡ Some turn.going.arrival))
        (λ turn. nat_eq turn.going.node node) made.turns.items turn (each_goes parts made ready) is in
        let node_is : turn.going.node ≡ node = eqb-true turn.going.node node known.1 in
        subst (IsAfter parts made) node_is
        (node_goes parts made turn ready known.0.0 known.0.1
        (ap (λ node. find (λ (other : Turn). nat_eq other.going.node node) made.turns.items) node_is ∙ is))

pub world_after : (parts : Parts) (made : Turns) → AreReady parts made
    → world_of (plan_in parts) (cells_after parts made) parts.reports.reports (acts_after parts made)
    ≡ micro (plan_in parts) (world_in parts)
world_after parts made ready = λ i. record {
  nodes = nodes_are plan 0 (record_in plan (cells_after parts made) (acts_after parts made))
      (next_record plan (world_in parts))
      (λ node here.
      let same : 0 + node ≡ node = omega arith in
      ap (record_in plan (cells_after parts made) (acts_after parts made)) same
      ∙ (node_after parts made node ready here).record_is) i;
  reports = parts.reports.reports;
}
  where
    plan : List Site
    plan = plan_in parts

pub stand_after : (parts : Parts) (made : Turns) → AreReady parts made
    → IsParts (plan_in parts) (cells_after parts made) (acts_after parts made)
stand_after parts made ready = record {
  all_cells = all_length (plan_in parts) made.turns.items (cells_begun parts made) (turns_within parts made ready)
      (begun_all parts made ready);
  all_acts = all_acts_length (plan_in parts) made.turns.items parts.actions.contents.values (turns_within parts made ready)
      ready.stand.all_acts;
  nodes = λ node here. (node_after parts made node ready here).node_is;
}

-- What a command returned goes to its variable, as the semantics has it.
use Rattle.std.proofs.Common.{◌≡◌, ℕ, ◌+◌, ◌<◌, true, false, List, length, set, refl, ap, sym, ◌∙◌, subst, arith, Option, Some, None}
use Rattle.std.specs.Option.{option_map}
use Rattle.std.proofs.Math.Logic.{∥∥₁_elim}
use Rattle.std.proofs.Props.{props}
use Rattle.std.proofs.lemmas.Bool.{and_parts, and_from, false≢true, ltb-true}
use Rattle.px_value.specs.declared.value.Value.{Value}
use Rattle.px_core.specs.declared.variable.VarKind.{VarKind}
use Rattle.px_core.specs.Expr.{Term}
use Rattle.px_core.specs.Fit.{variables_differ}
use Rattle.px_core.specs.Plan.{Site, BodyData, Nothing, Assign, Command, Update, TargetData}
use Rattle.px_event.specs.declared.event.Event.TheVariants as events
use Rattle.px_sem.specs.Conflicts.{target_of}
use Rattle.px_sem.specs.Effects.{as_kind, write_at, cell_of}
use Rattle.px_sem.specs.Events.{with_write, returned, result_place, body_at, has_result, changed, take}
use Rattle.px_sem.specs.World as world
use Rattle.px_sem.specs.World.{LookState, Report}
use Rattle.px_flat.specs.declared.act.Act.{Act}
use Rattle.px_flat.specs.declared.act.Act.TheVariants as under_way
use Rattle.px_flat.specs.declared.flat.Flat.{Flat}
use Rattle.px_flat.specs.Flat.{plan_of}
use Rattle.px_flat.specs.Layout.{Place, state_cell, handle_cell, acknowledgement_cell, variable_cells}
use Rattle.px_flat.specs.Numbered.{held, numbered_body, place_of, kind_of}
use Rattle.px_flat.specs.Parts.{IsParts, world_of, action_in, act_of, state_in, fits}
use Rattle.px_flat.specs.Row.{site_in}
use Rattle.px_flat.proofs.Known.{IsSound}
use Rattle.px_flat.proofs.Slotted.{names_differ}
use Rattle.px_flat.proofs.Targets.{taken_alike}
use Rattle.px_flat.proofs.Variables.{IsDeclared, place_at, declared_place, target_declared}
use Rattle.px_command.specs.Counting.{return_counts}
use Rattle.px_command.specs.Results.{result_slot}
use Rattle.px_command.proofs.Rows.{HasNode, has_node, counted, nothing_changes}
use Rattle.px_command.proofs.Writes.{IsCellOf, variable_written}

-- ---- the names of variables

-- the variables of each node differ in name
abbrev pub AllDiffer : List Site → Type 0
AllDiffer plan = (node : ℕ) → node < length plan → variables_differ (site_in plan node) ≡ true

pub flat_differs : (flat : Flat) → AllDiffer (plan_of flat)
flat_differs flat node within =
    ∥∥₁_elim flat.names.fit (hlevel props) (λ fit. names_differ (plan_of flat) fit node within)

-- ---- where a result goes

-- the place of a result, by the cell that it is
record IsSlot (plan : List Site) (target : TargetData) (act : Act) (h a : Value) (slot : ℕ × VarKind) : Type 0 where
  place : world.Place
  is : result_place target (action_in act h a) ≡ Some place
  cell_is : slot.0 ≡ (place_of plan target.owner target.name).first + cell_of place
  kind_is : slot.1 ≡ kind_of plan target.owner target.name
  inside : cell_of place < (place_of plan target.owner target.name).size

slot_place : (plan : List Site) (command : List ℕ) (args : List Term) (owner name : List ℕ) (index : Option Term) (act : Act)
    (h a : Value) (slot : ℕ × VarKind) → 0 < (place_of plan owner name).size
    → fits plan (Command command args (Some (record { owner = owner; name = name; index = index }))) act ≡ true
    → result_slot (numbered_body plan (Command command args (Some (record { owner = owner; name = name; index = index })))) act
    ≡ Some slot
    → IsSlot plan (record { owner = owner; name = name; index = index }) act h a slot
slot_place plan command args owner name None (under_way.Sent taken abort) h a slot some fit is =
    let same : ((place_of plan owner name).first, kind_of plan owner name) ≡ slot = (cc) in
    record {
      place = world.Whole;
      is = refl;
      cell_is = sym (ap (λ (slot : ℕ × VarKind). slot.0) same) ∙ omega arith;
      kind_is = sym (ap (λ (slot : ℕ × VarKind). slot.1) same);
      inside = some;
    }
slot_place plan command args owner name (Some term) (under_way.Sent None abort) h a slot some fit is = absurd (cc)
slot_place plan command args owner name (Some term) (under_way.Sent (Some taken) abort) h a slot some fit is =
    let same : ((place_of plan owner name).first + taken, kind_of plan owner name) ≡ slot = (cc) in
    record {
      place = world.Element taken;
      is = refl;
      cell_is = sym (ap (λ (slot : ℕ × VarKind). slot.0) same);
      kind_is = sym (ap (λ (slot : ℕ × VarKind). slot.1) same);
      inside = ltb-true taken (place_of plan owner name).size fit;
    }
slot_place plan command args owner name index act h a slot some fit is = absurd (cc)

no_place : (plan : List Site) (command : List ℕ) (args : List Term) (owner name : List ℕ) (index : Option Term) (act : Act)
    (h a : Value)
    → result_slot (numbered_body plan (Command command args (Some (record { owner = owner; name = name; index = index })))) act ≡ None
    → result_place (record { owner = owner; name = name; index = index }) (action_in act h a) ≡ None
no_place plan command args owner name None (under_way.Sent taken abort) h a is = absurd (cc)
no_place plan command args owner name (Some term) (under_way.Sent None abort) h a is = refl
no_place plan command args owner name (Some term) (under_way.Sent (Some taken) abort) h a is = absurd (cc)
no_place plan command args owner name index under_way.Idle h a is = refl
no_place plan command args owner name index under_way.Unwritten h a is = refl
no_place plan command args owner name index (under_way.Scalar old) h a is = refl
no_place plan command args owner name index (under_way.Element at old) h a is = refl
no_place plan command args owner name index under_way.Updated h a is = refl

-- ---- a body that has a result

-- the target of the result
record HasTarget (body : BodyData) : Type 0 where
  command : List ℕ
  args : List Term
  result : TargetData
  is : body ≡ Command command args (Some result)

with_result : (body : BodyData) → has_result body ≡ true → HasTarget body
with_result (Command command args (Some result)) has = record { command = command; args = args; result = result; is = refl }
with_result body has = absurd (false≢true has)

slot_result : (plan : List Site) (body : BodyData) (act : Act) (slot : ℕ × VarKind)
    → result_slot (numbered_body plan body) act ≡ Some slot → has_result body ≡ true
slot_result plan (Command command args (Some result)) act slot is = refl
slot_result plan (Command command args None) act slot is = absurd (cc)
slot_result plan Nothing act slot is = absurd (cc)
slot_result plan (Assign written value) act slot is = absurd (cc)
slot_result plan (Update pairs) act slot is = absurd (cc)

-- ---- the row of the table

pub return_early : (plan : List Site) (cells : List Value) (reports : List (LookState × Report)) (acts : List Act) (node : ℕ)
    (given : Value) → IsSound plan → node < length plan
    → return_counts (state_in (held cells (state_cell plan node))) ≡ false
    → take plan (world_of plan cells reports acts) (events.Return (site_in plan node).path given)
    ≡ world_of plan cells reports acts
return_early plan cells reports acts node given sound within early =
    nothing_changes plan (world_of plan cells reports acts) (events.Return (site_in plan node).path given) (λ counts.
    absurd (false≢true (sym early ∙ sym (ap return_counts has.state_is)
    ∙ (and_parts (has_result (body_at plan (site_in plan node).path)) _ counts).1)))
  where
    has : HasNode plan cells reports acts node
    has = has_node plan cells reports acts node sound within

-- what is changed where a command has a result
changes : (plan : List Site) (cells : List Value) (reports : List (LookState × Report)) (acts : List Act) (node : ℕ)
    (given : Value) → IsSound plan → node < length plan → (of : HasTarget (site_in plan node).head.body)
    → changed plan (world_of plan cells reports acts) (events.Return (site_in plan node).path given)
    ≡ with_write plan (world_of plan cells reports acts)
    (option_map (write_at plan of.result given)
    (result_place of.result (action_in (act_of acts node) (held cells (handle_cell plan node)) (held cells (acknowledgement_cell plan node)))))
changes plan cells reports acts node given sound within of =
    let has = has_node plan cells reports acts node sound within in
    λ i. with_write plan (world_of plan cells reports acts)
    (returned plan (target_of ((has.body_is ∙ of.is) i)) (has.action_is i) given)

pub return_nowhere : (plan : List Site) (cells : List Value) (reports : List (LookState × Report)) (acts : List Act) (node : ℕ)
    (given : Value) → IsSound plan → node < length plan
    → result_slot (numbered_body plan (site_in plan node).head.body) (act_of acts node) ≡ None
    → take plan (world_of plan cells reports acts) (events.Return (site_in plan node).path given)
    ≡ world_of plan cells reports acts
return_nowhere plan cells reports acts node given sound within none =
    nothing_changes plan (world_of plan cells reports acts) (events.Return (site_in plan node).path given) (λ counts.
    let has = has_node plan cells reports acts node sound within in
    let of = with_result (site_in plan node).head.body
    (ap has_result (sym has.body_is) ∙ (and_parts (has_result (body_at plan (site_in plan node).path)) _ counts).0) in
    changes plan cells reports acts node given sound within of
    ∙ ap (λ place. with_write plan (world_of plan cells reports acts) (option_map (write_at plan of.result given) place))
    (no_place plan of.command of.args of.result.owner of.result.name of.result.index (act_of acts node) _ _
    (ap (λ body. result_slot (numbered_body plan body) (act_of acts node)) (sym of.is) ∙ none)))

-- all of a slot
record IsResult (plan : List Site) (cells : List Value) (acts : List Act) (node : ℕ) (slot : ℕ × VarKind) : Type 0 where
  of : HasTarget (site_in plan node).head.body
  declared : IsDeclared plan of.result.owner of.result.name
  at : IsSlot plan of.result (act_of acts node) (held cells (handle_cell plan node))
      (held cells (acknowledgement_cell plan node)) slot
  place_is : place_of plan of.result.owner of.result.name ≡ declared.has.place

result_is : (plan : List Site) (cells : List Value) (acts : List Act) (node : ℕ) (slot : ℕ × VarKind)
    → IsSound plan → node < length plan → IsParts plan cells acts
    → result_slot (numbered_body plan (site_in plan node).head.body) (act_of acts node) ≡ Some slot
    → IsResult plan cells acts node slot
result_is plan cells acts node slot sound within parts is =
    record { of = of; declared = declared; at = at; place_is = place_is }
  where
    of : HasTarget (site_in plan node).head.body
    of = with_result (site_in plan node).head.body (slot_result plan (site_in plan node).head.body (act_of acts node) slot is)

    declared : IsDeclared plan of.result.owner of.result.name
    declared = target_declared plan node of.result sound within (ap target_of of.is)

    place_is : place_of plan of.result.owner of.result.name ≡ declared.has.place
    place_is = place_at plan of.result.owner of.result.name sound declared

    at : IsSlot plan of.result (act_of acts node) (held cells (handle_cell plan node))
        (held cells (acknowledgement_cell plan node)) slot
    at = slot_place plan of.command of.args of.result.owner of.result.name of.result.index (act_of acts node) _ _ slot
        (declared_place plan of.result.owner of.result.name sound declared).some
        (ap (λ body. fits plan body (act_of acts node)) (sym of.is) ∙ (parts.nodes node within).act)
        (ap (λ body. result_slot (numbered_body plan body) (act_of acts node)) (sym of.is) ∙ is)

pub slot_within : (plan : List Site) (cells : List Value) (acts : List Act) (node : ℕ) (slot : ℕ × VarKind)
    → IsSound plan → node < length plan → IsParts plan cells acts
    → result_slot (numbered_body plan (site_in plan node).head.body) (act_of acts node) ≡ Some slot
    → slot.0 < variable_cells plan
slot_within plan cells acts node slot sound within parts is =
    let result = result_is plan cells acts node slot sound within parts is in
    omega (
      arith,
      result.at.cell_is,
      result.at.inside,
      (declared_place plan result.of.result.owner result.of.result.name sound result.declared).within,
    )

pub return_taken : (plan : List Site) (cells : List Value) (reports : List (LookState × Report)) (acts : List Act) (node : ℕ)
    (given : Value) (slot : ℕ × VarKind) → IsSound plan → AllDiffer plan → node < length plan → IsParts plan cells acts
    → return_counts (state_in (held cells (state_cell plan node))) ≡ true
    → result_slot (numbered_body plan (site_in plan node).head.body) (act_of acts node) ≡ Some slot
    → world_of plan (set cells slot.0 (as_kind slot.1 given)) reports acts
    ≡ take plan (world_of plan cells reports acts) (events.Return (site_in plan node).path given)
return_taken plan cells reports acts node given slot sound differ within parts at_work is =
    variable_written plan cells reports acts result.of.result.owner result.of.result.name result.at.place slot.0
    (as_kind slot.1 given) sound cell
    ∙ ap (λ value. with_write plan (world_of plan cells reports acts)
    (Some (record { owner = result.of.result.owner; name = result.of.result.name; place = result.at.place; value = value })))
    (ap (λ kind. as_kind kind given) result.at.kind_is ∙ sym (taken_alike plan result.of.result given sound result.declared))
    ∙ ap (λ place. with_write plan (world_of plan cells reports acts) (option_map (write_at plan result.of.result given) place))
    (sym result.at.is)
    ∙ sym (changes plan cells reports acts node given sound within result.of)
    ∙ sym (counted plan (world_of plan cells reports acts) (events.Return (site_in plan node).path given)
    (and_from (has_result (body_at plan (site_in plan node).path)) _
    (ap has_result has.body_is ∙ slot_result plan (site_in plan node).head.body (act_of acts node) slot is)
    (ap return_counts has.state_is ∙ at_work)))
  where
    has : HasNode plan cells reports acts node
    has = has_node plan cells reports acts node sound within

    result : IsResult plan cells acts node slot
    result = result_is plan cells acts node slot sound within parts is

    cell : IsCellOf plan result.of.result.owner result.of.result.name result.at.place slot.0
    cell = record {
      declared = result.declared;
      differ = differ result.declared.node result.declared.within;
      inside = subst (λ (place : Place). cell_of result.at.place < place.size) result.place_is result.at.inside;
      is = result.at.cell_is ∙ ap (λ (place : Place). place.first + cell_of result.at.place) result.place_is;
    }

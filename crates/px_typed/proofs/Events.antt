-- An event keeps the cells of variables, and the types of cells and of kept values.
use Rattle.std.proofs.Common.{◌≡◌, ℕ, Bool, true, false, List, map, Option, Some, None, refl, ap, sym, ◌∙◌, subst, if◌then◌else◌}
use Rattle.std.specs.List.{zip}
use Rattle.std.specs.Option.{ForSome}
use Rattle.std.specs.Cmp.Lexicographic.{bytes_decides}
use Rattle.px_value.specs.declared.enums.Handle.{Handle}
use Rattle.px_value.specs.declared.value.Value.{Value}
use Rattle.px_value.proofs.General.{option_map_some}
use Rattle.px_core.specs.Plan.{Site, VariableData, TargetData, BodyData, is_same, site_at}
use Rattle.px_event.specs.declared.event.Event.{Event}
use Rattle.px_event.specs.declared.event.Event.TheVariants as events
use Rattle.px_sem.specs.World.{World, NodeRecord, Action, NoAction, Assigned, Commanded, Updated, AbortDone, record_at, variable_at}
use Rattle.px_sem.specs.Conflicts.{target_of}
use Rattle.px_sem.specs.Effects.{Write, write_at, written}
use Rattle.px_sem.specs.Events.{with_record, with_action, with_write, with_handle, with_abort_done, result_place, returned, body_at, action_at, counts, changed, take, written_by}
use Rattle.px_typed.specs.Typing.{Suits, HasCells, KeptSuits, IsTyped}
use Rattle.px_typed.proofs.Effects.{WriteSuits, write_at_suits, command_kept, update_kept}
use Rattle.px_typed.proofs.Records.{found_named, with_record_holds}
use Rattle.px_typed.proofs.Variables.{HoldsSuiting, Keeps, changed_suit, written_suits}

-- the record of the node at a path is typed
record RecordSuits (plan : List Site) (path : List ℕ) (r : NodeRecord) : Type 0 where
  cells : (name : List ℕ) → HoldsSuiting (site_at plan path).head.variables name r.variables
  kept : KeptSuits plan (site_at plan path).head.body r.action

at_path : (plan : List Site) (world : World) → IsTyped plan world → (path : List ℕ) → RecordSuits plan path (record_at world path)
at_path plan world typed path = record { cells = typed.cells path; kept = typed.kept path }

-- another record of one node
with_record_typed : (plan : List Site) (world : World) → IsTyped plan world → (path : List ℕ) (r : NodeRecord)
    → RecordSuits plan path r → IsTyped plan (with_record world path r)
with_record_typed plan world typed path r suits = record {
  cells = λ owner name. (at owner).cells name;
  kept = λ q. (at q).kept;
}
  where
    at : (q : List ℕ) → RecordSuits plan q (record_at (with_record world path r) q)
    at q = with_record_holds (RecordSuits plan) world.nodes path r suits q (at_path plan world typed q)

-- another action of one node
with_action_typed : (plan : List Site) (world : World) → IsTyped plan world → (path : List ℕ) (action : Action)
    → KeptSuits plan (site_at plan path).head.body action → IsTyped plan (with_action world path action)
with_action_typed plan world typed path action kept =
    with_record_typed plan world typed path (record (record_at world path) { action = action })
    (record { cells = typed.cells path; kept = kept })

handled : (plan : List Site) (body : BodyData) (handle : Handle) (under_way : Action) → KeptSuits plan body under_way
    → KeptSuits plan body (with_handle handle under_way)
handled plan body handle NoAction kept = kept
handled plan body handle (Assigned old) kept = kept
handled plan body handle (Commanded index before abort) kept = command_kept plan body index (Some handle) abort
handled plan body handle (Updated acknowledged) kept = kept

abort_done : (plan : List Site) (body : BodyData) (under_way : Action) → KeptSuits plan body under_way
    → KeptSuits plan body (with_abort_done under_way)
abort_done plan body NoAction kept = kept
abort_done plan body (Assigned old) kept = kept
abort_done plan body (Commanded index handle abort) kept = command_kept plan body index handle AbortDone
abort_done plan body (Updated acknowledged) kept = kept

-- ---- a write

one_keeps : (plan : List Site) (write : Write) → WriteSuits plan write → (name : List ℕ)
    → ForSome (variable_at plan write.owner name) (Keeps (written_by write))
one_keeps plan write suits name variable is cells suit = by (is_same variable.name write.name) refl
  where
    by : (b : Bool) → is_same variable.name write.name ≡ b
        → HasCells variable (if b then written cells (Some write) else cells)
    by true same =
        let here : write.name ≡ name =
        sym ((bytes_decides variable.name write.name).0 same)
        ∙ found_named (λ (variable : VariableData). variable.name) (site_at plan write.owner).head.variables name variable is in
        written_suits variable cells (Some write) suit
        (λ w w_is.
        let it : write ≡ w = cc in
        subst (λ w. Suits variable.kind w.value) it (suits variable (ap (variable_at plan write.owner) here ∙ is)))
    by false other = suit

with_write_typed : (plan : List Site) (world : World) → IsTyped plan world → (write : Option Write)
    → ForSome write (WriteSuits plan) → IsTyped plan (with_write plan world write)
with_write_typed plan world typed None suits = typed
with_write_typed plan world typed (Some write) suits =
    with_record_typed plan world typed write.owner
    (record (record_at world write.owner) {
      variables = map (written_by write) (zip (site_at plan write.owner).head.variables (record_at world write.owner).variables);
    })
    (record {
      cells = λ name. changed_suit (written_by write) (site_at plan write.owner).head.variables
          (record_at world write.owner).variables name (typed.cells write.owner name)
          (one_keeps plan write (suits write refl) name);
      kept = typed.kept write.owner;
    })

returned_suits : (plan : List Site) (target : Option TargetData) (under_way : Action) (given : Value)
    → ForSome (returned plan target under_way given) (WriteSuits plan)
returned_suits plan None under_way given write is = absurd (cc)
returned_suits plan (Some target) under_way given write is =
    let place = option_map_some (write_at plan target given) (result_place target under_way) write is in
    subst (WriteSuits plan) place.2 (write_at_suits plan target given place.0)

-- ---- events

changed_typed : (plan : List Site) (world : World) → IsTyped plan world → (event : Event) → IsTyped plan (changed plan world event)
changed_typed plan world typed (events.Report name args given) = record { cells = typed.cells; kept = typed.kept }
changed_typed plan world typed (events.Handle node handle) =
    with_action_typed plan world typed node (with_handle handle (action_at world node))
    (handled plan (site_at plan node).head.body handle (action_at world node) (typed.kept node))
changed_typed plan world typed (events.Return node given) =
    with_write_typed plan world typed (returned plan (target_of (body_at plan node)) (action_at world node) given)
    (returned_suits plan (target_of (body_at plan node)) (action_at world node) given)
changed_typed plan world typed (events.AbortDone node) =
    with_action_typed plan world typed node (with_abort_done (action_at world node))
    (abort_done plan (site_at plan node).head.body (action_at world node) (typed.kept node))
changed_typed plan world typed (events.Acknowledged node) =
    with_action_typed plan world typed node (Updated true) (update_kept plan (site_at plan node).head.body true)

pub event_typed : (plan : List Site) (world : World) (event : Event) → IsTyped plan world → IsTyped plan (take plan world event)
event_typed plan world event typed = by (counts plan world event)
  where
    by : (b : Bool) → IsTyped plan (if b then changed plan world event else world)
    by true = changed_typed plan world typed event
    by false = typed

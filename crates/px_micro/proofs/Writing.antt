-- What the nodes that go write, in cells and as the semantics has it.
use Rattle.std.proofs.Common.{◌≡◌, ◌≢◌, ℕ, ◌+◌, ◌<◌, ◌≤◌, Bool, true, false, nat_lt, ◌&&◌, List, [], ◌∷◌, length, get_or, set, take, drop, fold, map, nat_eq, refl, ap, sym, ◌∙◌, subst, arith, inl, inr, Option, Some, None, is_some, All, if◌then◌else◌, length-drop}
use Rattle.std.specs.List.{filter_map, cons_option, find, zip}
use Rattle.std.specs.Cmp.{nat_eq_equiv}
use Rattle.std.specs.Option.{ForSome, option_and_then, option_map}
use Rattle.std.proofs.lemmas.Bool.{and_parts, eqb-false, ltb-true}
use Rattle.std.proofs.lemmas.Bool.Decides.{eqb_tells}
use Rattle.std.proofs.lemmas.Grind.{common_steps}
use Rattle.std.proofs.lemmas.List.{get_or-drop, get_or-set_same, get_or-set_other, get_or-take, length-set, length-take-le}
use Rattle.std.proofs.lemmas.List.Elements.{All-head, All-map, All-tail}
use Rattle.px_value.proofs.General.{IfSome-map, all_given}
use Rattle.px_value.specs.declared.value.Value.{Value}
use Rattle.px_value.specs.declared.value.Value.TheVariants as values
use Rattle.px_core.specs.Expr.{Term}
use Rattle.px_core.specs.Plan.{Site, BodyData, Nothing, Assign, Command, Update, TargetData, VariableData, is_same}
use Rattle.px_sem.specs.declared.guards.Arrival.{Arrival}
use Rattle.px_sem.specs.Conflicts.{target_of, transition}
use Rattle.px_sem.specs.Effects as sem
use Rattle.px_sem.specs.Effects.{Write, cell_of, effects_of, move_kind, row_of, write_at, write_to, written}
use Rattle.px_sem.specs.Expressions.{value}
use Rattle.px_sem.specs.Step.{own_write, step_writes, written_in_step}
use Rattle.px_sem.specs.World as world
use Rattle.px_sem.specs.World.{World, NodeRecord}
use Rattle.px_sem.proofs.Writes.{IsTo, found_to}
use Rattle.px_flat.specs.declared.act.Act.{Act}
use Rattle.px_flat.specs.declared.act.Act.TheVariants as acts
use Rattle.px_flat.specs.Layout.{Place, all_cells, first_cell, variable_cells}
use Rattle.px_flat.specs.Numbered.{held, place_of}
use Rattle.px_flat.specs.Parts.{action_in, act_of, fits, values_in}
use Rattle.px_flat.specs.Row.{site_in}
use Rattle.px_flat.proofs.Known.{IsSound}
use Rattle.px_flat.proofs.Tables.{flat_sound}
use Rattle.px_flat.proofs.Variables.{IsDeclared, place_at, target_declared, one_cell, cells_within}
use Rattle.px_eval.proofs.Elements.{index_is}
use Rattle.px_assign.proofs.Ties.{same_variable}
use Rattle.px_command.proofs.Returns.{flat_differs}
use Rattle.px_micro.specs.declared.effects.CellWrite.{CellWrite}
use Rattle.px_parts.specs.declared.parts.Parts.{Parts}
use Rattle.px_micro.specs.declared.sight.Going.{Going}
use Rattle.px_micro.specs.Going.{AreAllGoing}
use Rattle.px_micro.specs.Moving.{put_write}
use Rattle.px_parts.specs.Parts.{AreStanding, plan_in, world_in, record_of}
use Rattle.px_micro.specs.Turns.{in_cells, effects_in, first_writes, written_in}
use Rattle.px_micro.proofs.Blocks.{block_is, set_length}
use Rattle.px_micro.proofs.Firsts.{writes_to, firsts_all, firsts_apart, firsts_find}
use Rattle.px_micro.proofs.Goers.{gone}
use Rattle.px_micro.proofs.Hits.{hit_by, one_hit}
use Rattle.px_micro.proofs.Initial.{right_cells}
use Rattle.px_micro.proofs.Meaning.{place_inside}
use Rattle.px_parts.proofs.Found.{record_is}
use Rattle.px_micro.proofs.Slots.{IsSlot, slot_has, values_in-by}
use Rattle.px_micro.proofs.Targets.{HasCells, has_cells}

-- ---- a write is within its variable

-- a write at a place of a variable that the plan declares
pub record IsInside (plan : List Site) (write : Write) : Type 0 where
  pub declared : IsDeclared plan write.owner write.name
  pub inside : cell_of write.place < declared.has.place.size

inside_of : (plan : List Site) (owner name : List ℕ) (place : world.Place) (value : Value) → IsSound plan
    → IsDeclared plan owner name → cell_of place < (place_of plan owner name).size
    → IsInside plan (record { owner = owner; name = name; place = place; value = value })
inside_of plan owner name place value sound declared inside = record {
  declared = declared;
  inside = omega (arith, inside, ap (λ (place : Place). place.size) (place_at plan owner name sound declared));
}

-- the place of a target
place_small : (parts : Parts) (owner name : List ℕ) (index : Option Term) (place : world.Place) → HasCells parts owner name
    → sem.place_of (plan_in parts) (world_in parts) (record { owner = owner; name = name; index = index }) ≡ Some place
    → cell_of place < (place_of (plan_in parts) owner name).size
place_small parts owner name None place has is =
    let same : world.Whole ≡ place = cc is in
    subst (λ place. cell_of place < (place_of (plan_in parts) owner name).size) same has.some
place_small parts owner name (Some term) place has is = grind (arith, common_steps, index_is, ltb-true, place_inside)

-- an assignment
assigns_inside : (parts : Parts) (target : TargetData) (right : Term)
    → IsDeclared (plan_in parts) target.owner target.name → HasCells parts target.owner target.name
    → ForSome (sem.assigns (plan_in parts) (world_in parts) target right).write (IsInside (plan_in parts))
assigns_inside parts target right declared has =
    by (sem.place_of plan (world_in parts) target) refl
  where
    plan : List Site
    plan = plan_in parts

    by : (place : Option world.Place) → sem.place_of plan (world_in parts) target ≡ place
        → ForSome (sem.assigns plan (world_in parts) target right).write (IsInside plan)
    by None is = rw is (λ write none. absurd (cc none))
    by (Some place) is = rw is (λ write same.
        let one : write_at plan target (value plan (world_in parts) right) place ≡ write = cc same in
        subst (IsInside plan) one
        (inside_of plan target.owner target.name place (sem.taken_as plan target (value plan (world_in parts) right))
        (flat_sound parts.flat) declared
        (place_small parts target.owner target.name target.index place has is)))

-- what is written back
back_inside : (parts : Parts) (target : TargetData) (right : Term) (act : Act) (handle acknowledgement : Value)
    → IsDeclared (plan_in parts) target.owner target.name → HasCells parts target.owner target.name
    → fits (plan_in parts) (Assign target right) act ≡ true
    → ForSome (sem.writes_back target (action_in act handle acknowledgement)).write (IsInside (plan_in parts))
back_inside parts target right acts.Idle h a declared has fit = λ write none. absurd (cc none)
back_inside parts target right acts.Unwritten h a declared has fit = λ write none. absurd (cc none)
back_inside parts target right (acts.Scalar old) h a declared has fit = λ write same.
    let back : Write = record { owner = target.owner; name = target.name; place = world.Whole; value = old } in
    let one : back ≡ write = cc same in
    subst (IsInside (plan_in parts)) one
    (inside_of (plan_in parts) target.owner target.name world.Whole old (flat_sound parts.flat) declared has.some)
back_inside parts target right (acts.Element index old) h a declared has fit = λ write same.
    let back : Write = record { owner = target.owner; name = target.name; place = world.Element index; value = old } in
    let one : back ≡ write = cc same in
    subst (IsInside (plan_in parts)) one
    (inside_of (plan_in parts) target.owner target.name (world.Element index) old (flat_sound parts.flat) declared
    (ltb-true index (place_of (plan_in parts) target.owner target.name).size
    (and_parts (is_some target.index) (nat_lt index (place_of (plan_in parts) target.owner target.name).size) fit).1))
back_inside parts target right (acts.Sent index abort) h a declared has fit = absurd (cc fit)
back_inside parts target right acts.Updated h a declared has fit = absurd (cc fit)

-- by the table of effects
row_inside : (parts : Parts) (node : ℕ) (move : sem.MoveKind) (body : BodyData) → AreStanding parts
    → node < length (plan_in parts) → (site_in (plan_in parts) node).head.body ≡ body
    → ForSome (row_of (plan_in parts) (world_in parts) (record_of parts node) move body).write (IsInside (plan_in parts))
row_inside parts node move body stand here is = by move body is
  where
    plan : List Site
    plan = plan_in parts

    declared : (target : TargetData) (right : Term) → (site_in plan node).head.body ≡ Assign target right
        → IsDeclared plan target.owner target.name
    declared target right is =
        target_declared plan node target (flat_sound parts.flat) here (ap target_of is)

    by : (move : sem.MoveKind) (body : BodyData) → (site_in plan node).head.body ≡ body
        → ForSome (row_of plan (world_in parts) (record_of parts node) move body).write (IsInside plan)
    by move Nothing is = λ write none. absurd (cc none)
    by sem.Initializes body is = λ write none. absurd (cc none)
    by sem.Resets body is = λ write none. absurd (cc none)
    by sem.Starts (Assign target right) is =
        assigns_inside parts target right (declared target right is) (has_cells parts target.owner target.name stand (declared target right is))
    by sem.Starts (Command name args result) is = λ write none. absurd (cc none)
    by sem.Starts (Update pairs) is = λ write none. absurd (cc none)
    by sem.Fails (Assign target right) is =
        back_inside parts target right (act_of parts.actions.contents.values node) _ _ (declared target right is)
        (has_cells parts target.owner target.name stand (declared target right is))
        (ap (λ body. fits plan body (act_of parts.actions.contents.values node)) (sym is) ∙ (stand.nodes node here).act)
    by sem.Fails (Command name args result) is = λ write none. absurd (cc none)
    by sem.Fails (Update pairs) is = λ write none. absurd (cc none)
    by sem.Other body is = λ write none. absurd (cc none)

write_inside : (parts : Parts) (one : Going) → AreStanding parts → one.node < length (plan_in parts)
    → ForSome (effects_in parts one).write (IsInside (plan_in parts))
write_inside parts one stand here =
    let plan : List Site = plan_in parts in
    let now : World = world_in parts in
    let site : Site = site_in plan one.node in
    let move : sem.MoveKind = move_kind (record_of parts one.node).state one.arrival.to in
    let are : effects_in parts one ≡ row_of plan now (record_of parts one.node) move site.head.body =
    ap (λ (r : NodeRecord). row_of plan now r (move_kind r.state one.arrival.to) site.head.body) (record_is parts one.node here) in
    subst (λ (effects : sem.Effects). ForSome effects.write (IsInside plan)) (sym are)
    (row_inside parts one.node move site.head.body stand here refl)

-- ---- all writes

-- a write in cells is one within its variable
pub record IsWriteOf (plan : List Site) (write : CellWrite) : Type 0 where
  pub source : Write
  pub inside : IsInside plan source
  pub is : in_cells plan source ≡ write

-- what all write, as the semantics has it
abbrev all_writes : Parts → List Going → List (Option Write)
all_writes parts going = map (λ one. (effects_in parts one).write) going

pub writes_inside : (parts : Parts) (going : List Going) → AreStanding parts
    → All (λ one. one.node < length (plan_in parts)) going
    → All (IsWriteOf (plan_in parts)) (filter_map (written_in parts) going)
writes_inside parts going stand within =
    all_given (IsWriteOf (plan_in parts)) (written_in parts) going
    (λ k d here.
    let one : Going = get_or going k d in
    IfSome-map (IsWriteOf (plan_in parts)) (in_cells (plan_in parts)) (effects_in parts one).write
    (λ write found. record { source = write; inside = write_inside parts one stand (within k d here) write found; is = refl }))

-- ---- the write to one variable

-- a write is to a variable where it is told by the variable's first cell
same_slot : (plan : List Site) (owner name : List ℕ) (write : Write) → IsSound plan → (declared : IsDeclared plan owner name)
    → IsInside plan write
    → nat_eq (place_of plan write.owner write.name).first declared.has.place.first
    ≡ (is_same write.owner owner && is_same write.name name)
same_slot plan owner name write sound declared inside =
    nat_eq_equiv.symm variable declared.has.place.first
    ∙ ap (λ (place : Place). nat_eq place.first variable) (sym (place_at plan owner name sound declared))
    ∙ same_variable plan (record { owner = owner; name = name; index = None })
    (record { owner = write.owner; name = write.name; index = None }) sound declared inside.declared
  where
    variable : ℕ
    variable = (place_of plan write.owner write.name).first

-- the first write in cells is the one that the semantics finds
found_alike : (parts : Parts) (going : List Going) (owner name : List ℕ) (declared : IsDeclared (plan_in parts) owner name)
    → All (λ write. ForSome write (IsInside (plan_in parts))) (all_writes parts going)
    → find (writes_to declared.has.place.first) (filter_map (written_in parts) going)
    ≡ option_map (in_cells (plan_in parts)) (write_to owner name (all_writes parts going))
found_alike parts [] owner name declared inside = refl
found_alike parts (one ∷ going) owner name declared inside =
    by (effects_in parts one).write
    (All-head (λ write. ForSome write (IsInside (plan_in parts))) (effects_in parts one).write (all_writes parts going) inside)
    (found_alike parts going owner name declared
    (All-tail (λ write. ForSome write (IsInside (plan_in parts))) (effects_in parts one).write (all_writes parts going) inside))
  where
    first : ℕ
    first = declared.has.place.first

    by : (write : Option Write) → ForSome write (IsInside (plan_in parts))
        → find (writes_to first) (filter_map (written_in parts) going)
        ≡ option_map (in_cells (plan_in parts)) (write_to owner name (all_writes parts going))
        → find (writes_to first) (cons_option (option_map (in_cells (plan_in parts)) write) (filter_map (written_in parts) going))
        ≡ option_map (in_cells (plan_in parts)) (write_to owner name (write ∷ all_writes parts going))
    by None inside rest = rest
    by (Some write) inside rest =
        ap (λ b. if b then Some (in_cells (plan_in parts) write) else find (writes_to first) (filter_map (written_in parts) going))
        (same_slot (plan_in parts) owner name write (flat_sound parts.flat) declared (inside write refl))
        ∙ test (is_same write.owner owner && is_same write.name name)
      where
        test : (b : Bool)
            → (if b then Some (in_cells (plan_in parts) write) else find (writes_to first) (filter_map (written_in parts) going))
            ≡ option_map (in_cells (plan_in parts)) (if b then Some write else write_to owner name (all_writes parts going))
        test true = refl
        test false = rest

-- those that go are all that write
sites_write : (plan : List Site) (now : World) (sites : List Site) (owner name : List ℕ)
    → write_to owner name (map (own_write plan now) sites)
    ≡ write_to owner name
    (filter_map (λ site. option_map (λ arrival. (effects_of plan now site arrival).write) (transition plan now site)) sites)
sites_write plan now [] owner name = refl
sites_write plan now (site ∷ sites) owner name =
    by (transition plan now site) (sites_write plan now sites owner name)
  where
    one : Arrival → Option Write
    one arrival = (effects_of plan now site arrival).write

    all : List (Option Write)
    all = map (own_write plan now) sites

    some : List (Option Write)
    some = filter_map (λ site. option_map (λ arrival. (effects_of plan now site arrival).write) (transition plan now site)) sites

    front : (write : Option Write) → write_to owner name all ≡ write_to owner name some
        → write_to owner name (write ∷ all) ≡ write_to owner name (write ∷ some)
    front None rest = rest
    front (Some write) rest =
        ap (λ found. if is_same write.owner owner && is_same write.name name then Some write else found) rest

    by : (arrival : Option Arrival) → write_to owner name all ≡ write_to owner name some
        → write_to owner name (option_and_then one arrival ∷ all) ≡ write_to owner name (cons_option (option_map one arrival) some)
    by None rest = rest
    by (Some arrival) rest = front (one arrival) rest

goers_write : (parts : Parts) (going : List Going) (owner name : List ℕ) → AreAllGoing (plan_in parts) (world_in parts) going
    → write_to owner name (step_writes (plan_in parts) (world_in parts)) ≡ write_to owner name (all_writes parts going)
goers_write parts going owner name are =
    sites_write (plan_in parts) (world_in parts) (plan_in parts) owner name
    ∙ ap (write_to owner name)
    (gone (plan_in parts) (world_in parts)
    (λ site arrival. (effects_of (plan_in parts) (world_in parts) site arrival).write) going are)

-- ---- the values of a variable after all writes

-- a cell after a write
abbrev put : ℕ → CellWrite → Value → Value
put cell write old = if nat_eq write.cell cell then write.value else old

after_set : (cells : List Value) (at cell : ℕ) (value : Value) → at < length cells
    → held (set cells at value) cell ≡ (if nat_eq at cell then value else held cells cell)
after_set cells at cell value within = grind (arith, common_steps, eqb_tells, get_or-set_same, get_or-set_other)

cell_small : (plan : List Site) (write : CellWrite) → IsSound plan → IsWriteOf plan write → write.cell < variable_cells plan
cell_small plan write sound of =
    let declared = of.inside.declared in
    let place = place_at plan of.source.owner of.source.name sound declared in
    omega (
      arith,
      ap (λ (write : CellWrite). write.cell) of.is,
      of.inside.inside,
      declared.has.within,
      cells_within plan declared.node declared.within,
      ap (λ (place : Place). place.first) place,
    )

pub writes_small : (plan : List Site) (writes : List CellWrite) → IsSound plan → All (IsWriteOf plan) writes
    → All (λ write. write.cell < variable_cells plan) writes
writes_small plan writes sound of k d within = cell_small plan (get_or writes k d) sound (of k d within)

-- a write of another variable is none of its cells
elsewhere : (plan : List Site) (owner name : List ℕ) (write : CellWrite) (i : ℕ) → IsSound plan
    → (declared : IsDeclared plan owner name) → IsWriteOf plan write → i < declared.has.place.size
    → writes_to declared.has.place.first write ≡ false → write.cell ≢ declared.has.place.first + i
elsewhere plan owner name write i sound declared of few other same =
    let source : Write = of.source in
    let place = place_at plan source.owner source.name sound of.inside.declared in
    let both = one_cell plan source.owner source.name owner name (cell_of source.place) i of.inside.declared declared
    of.inside.inside few
    (omega (arith, same, ap (λ (write : CellWrite). write.cell) of.is, ap (λ (place : Place). place.first) place)) in
    let first : (place_of plan source.owner source.name).first ≡ declared.has.place.first =
    ap (λ (place : Place). place.first)
    ((λ i. place_of plan (both.0 i) (both.1 i)) ∙ place_at plan owner name sound declared) in
    eqb-false write.variable declared.has.place.first other
    (sym (ap (λ (write : CellWrite). write.variable) of.is) ∙ first)

-- a variable after all writes
slot_after : (parts : Parts) (going : List Going) (cells : List Value) (owner name : List ℕ) (found : Option Write)
    (declared : IsDeclared (plan_in parts) owner name) → AreStanding parts
    → All (λ one. one.node < length (plan_in parts)) going → length cells ≡ all_cells (plan_in parts)
    → write_to owner name (all_writes parts going) ≡ found
    → take declared.has.place.size (drop declared.has.place.first
    (fold put_write cells (first_writes (filter_map (written_in parts) going))))
    ≡ written (take declared.has.place.size (drop declared.has.place.first cells)) found
slot_after parts going cells owner name found declared stand within all is = by found is
  where
    plan : List Site
    plan = plan_in parts

    sound : IsSound plan
    sound = flat_sound parts.flat

    first : ℕ
    first = declared.has.place.first

    size : ℕ
    size = declared.has.place.size

    writes : List CellWrite
    writes = filter_map (written_in parts) going

    after : List Value
    after = fold put_write cells (first_writes writes)

    inside : All (λ write. ForSome write (IsInside plan)) (all_writes parts going)
    inside = All-map (λ write. ForSome write (IsInside plan))
        (λ (one : Going). (effects_in parts one).write) going
        (λ k d few. write_inside parts (get_or going k d) stand (within k d few))

    of : All (IsWriteOf plan) (first_writes writes)
    of = firsts_all (IsWriteOf plan) writes (writes_inside parts going stand within)

    long : length after ≡ all_cells plan
    long = set_length (λ (write : CellWrite). write.cell) (λ (write : CellWrite). write.value) (first_writes writes) cells ∙ all

    room : first + size ≤ all_cells plan
    room = omega (arith, declared.has.within, cells_within plan declared.node declared.within)

    block : List Value
    block = take size (drop first cells)

    sized : length block ≡ size
    sized = length-take-le size (drop first cells) (omega (arith, length-drop first cells, room, all))

    before : (i : ℕ) → i < size → get_or block i values.Unknown ≡ held cells (first + i)
    before i few = get_or-take size (drop first cells) i values.Unknown few ∙ get_or-drop first cells i values.Unknown

    cell : (i : ℕ) → i < size → (found : Option Write) → write_to owner name (all_writes parts going) ≡ found
        → held after (first + i) ≡ hit_by (put (first + i)) (held cells (first + i)) (option_map (in_cells plan) found)
    cell i few found is =
        one_hit put_write (λ cells. held cells (first + i)) (writes_to first) (λ cells. length cells ≡ all_cells plan)
        (IsWriteOf plan) (put (first + i))
        (λ cells write of long. length-set cells write.cell write.value ∙ long)
        (λ cells write of long other.
        get_or-set_other cells write.cell (first + i) write.value values.Unknown
        (λ same. elsewhere plan owner name write i sound declared of few other (sym same)))
        (λ cells write of long same.
        after_set cells write.cell (first + i) write.value (omega (arith, long, cell_small plan write sound of)))
        (first_writes writes) cells of all (firsts_apart first writes)
        ∙ ap (hit_by (put (first + i)) (held cells (first + i)))
        (firsts_find first writes ∙ found_alike parts going owner name declared inside ∙ ap (option_map (in_cells plan)) is)

    by : (found : Option Write) → write_to owner name (all_writes parts going) ≡ found
        → take size (drop first after) ≡ written block found
    by None is =
        block_is size first after block sized (omega (arith, long, room)) (λ i few. cell i few None is ∙ sym (before i few))
    by (Some write) is =
        block_is size first after (set block at write.value) (length-set block at write.value ∙ sized)
        (omega (arith, long, room)) (λ i few. cell i few (Some write) is ∙ same i few)
      where
        to : IsTo (IsInside plan) owner name write
        to = found_to (IsInside plan) owner name (all_writes parts going) inside write is

        at : ℕ
        at = cell_of write.place

        place_is : place_of plan write.owner write.name ≡ declared.has.place
        place_is = (λ i. place_of plan (to.1 i) (to.2 i)) ∙ place_at plan owner name sound declared

        first_is : (place_of plan write.owner write.name).first ≡ first
        first_is = ap (λ (place : Place). place.first) place_is

        few_at : at < size
        few_at = omega (
          arith,
          to.0.inside,
          ap (λ (place : Place). place.size) (sym (place_at plan write.owner write.name sound to.0.declared) ∙ place_is),
        )

        same : (i : ℕ) → i < size
            → (if nat_eq ((place_of plan write.owner write.name).first + at) (first + i) then write.value else held cells (first + i))
            ≡ get_or (set block at write.value) i values.Unknown
        same i few = elim (eqb_tells ((place_of plan write.owner write.name).first + at) (first + i)) [
          | inl here ↦
              let one : at ≡ i = omega (arith, here.1, first_is) in
              ap (λ b. if b then write.value else held cells (first + i)) here.0
              ∙ sym (ap (λ n. get_or (set block at write.value) n values.Unknown) (sym one)
              ∙ get_or-set_same block at write.value values.Unknown (omega (arith, few_at, sized)))
          | inr apart ↦
              ap (λ b. if b then write.value else held cells (first + i)) apart.0
              ∙ sym (get_or-set_other block at i write.value values.Unknown (λ one. apart.1 (omega (arith, one, first_is)))
              ∙ before i few)
        ]

-- The values of a node's variables after all writes.
pub written_variables : (parts : Parts) (going : List Going) (cells : List Value) (node : ℕ) → AreStanding parts
    → AreAllGoing (plan_in parts) (world_in parts) going → length cells ≡ all_cells (plan_in parts)
    → node < length (plan_in parts)
    → values_in (site_in (plan_in parts) node).head.variables
    (drop (first_cell (plan_in parts) node) (fold put_write cells (first_writes (filter_map (written_in parts) going))))
    ≡ map (written_in_step (plan_in parts) (world_in parts) (site_in (plan_in parts) node))
    (zip (site_in (plan_in parts) node).head.variables
    (values_in (site_in (plan_in parts) node).head.variables (drop (first_cell (plan_in parts) node) cells)))
written_variables parts going cells node stand are all here =
    values_in-by own first (fold put_write cells (first_writes (filter_map (written_in parts) going))) cells
    (λ name block. written block (write_to path name (step_writes plan (world_in parts))))
    (flat_differs parts.flat node here)
    (λ name slot at.
    let found : IsSlot first own name slot =
    slot_has first own name slot (right_cells plan node (flat_sound parts.flat) here) at in
    let declared : IsDeclared plan path name = record { node = node; within = here; path_is = refl; has = found.has } in
    subst (λ (slot : Place). take slot.size (drop slot.first
    (fold put_write cells (first_writes (filter_map (written_in parts) going))))
    ≡ written (take slot.size (drop slot.first cells)) (write_to path name (step_writes plan (world_in parts)))) found.is
    (slot_after parts going cells path name (write_to path name (step_writes plan (world_in parts))) declared stand are.within all
    (sym (goers_write parts going path name are))))
  where
    plan : List Site
    plan = plan_in parts

    own : List VariableData
    own = (site_in plan node).head.variables

    first : ℕ
    first = first_cell plan node

    path : List ℕ
    path = (site_in plan node).path

-- What a move does in numbers is what the semantics has it do.
use mathlib.Core.List.{map-map}
use Rattle.std.proofs.Common.{◌≡◌, ℕ, ◌+◌, ◌^◌, ◌<◌, ◌≤◌, true, nat_lt, pos, negsuc, List, length, map, refl, ap, sym, ◌∙◌, subst, arith, Option, Some, None, is_some}
use Rattle.std.specs.List.{All}
use Rattle.std.specs.Option.{ForSome, option_map, option_and_then}
use Rattle.std.proofs.lemmas.Bool.{and_parts, ltb-true}
use Rattle.std.proofs.lemmas.Grind.{common_steps}
use Rattle.std.proofs.lemmas.Option.{same_Some}
use Rattle.px_value.specs.declared.value.Value.{Value}
use Rattle.px_value.specs.declared.value.Value.TheVariants as values
use Rattle.px_value.specs.Value.{place_in, value_index}
use Rattle.px_value.proofs.General.{All-unmap, map-same}
use Rattle.px_core.specs.Expr.{Term}
use Rattle.px_core.specs.Fit.{terms_of, targets_of}
use Rattle.px_core.specs.Plan.{Site, BodyData, Nothing, Assign, Command, Update, TargetData, PairData}
use Rattle.px_sem.specs.declared.moves.Effect.TheVariants as effects
use Rattle.px_sem.specs.Conflicts.{target_of}
use Rattle.px_sem.specs.Effects as sem
use Rattle.px_sem.specs.Effects.{as_kind, cell_of, index_of, move_kind, row_of, told_write, taken_as}
use Rattle.px_sem.specs.Expressions.{value}
use Rattle.px_sem.specs.World as world
use Rattle.px_sem.specs.World.{World, NodeRecord, Action, NoAction, cells_at}
use Rattle.px_flat.specs.declared.act.Abort.TheVariants as aborts
use Rattle.px_flat.specs.declared.act.Act.{Act}
use Rattle.px_flat.specs.declared.act.Act.TheVariants as acts
use Rattle.px_flat.specs.Layout.{handle_cell, acknowledgement_cell, variable_cells}
use Rattle.px_flat.specs.Numbered.{BodyNumbered, TargetNumbered, held, kind_of, numbered, numbered_body, numbered_target, place_of}
use Rattle.px_flat.specs.Parts.{fits, action_in, act_of}
use Rattle.px_flat.specs.Row.{site_in}
use Rattle.px_flat.specs.Values.{HasValue}
use Rattle.px_flat.specs.Within.{IsBodyWithin}
use Rattle.px_flat.proofs.NodeTerms.{have_values}
use Rattle.px_flat.proofs.Tables.{flat_sound}
use Rattle.px_flat.proofs.Withins.{node_is_within}
use Rattle.px_flat.proofs.Targets.{taken_alike}
use Rattle.px_flat.proofs.Variables.{IsDeclared, target_declared}
use Rattle.px_eval.proofs.Elements.{index_is}
use Rattle.px_micro.specs.declared.effects.Effects.{Effects}
use Rattle.px_micro.specs.declared.effects.UnderWay.TheVariants as under_way
use Rattle.px_command.proofs.Rows.{command_fits}
use Rattle.px_parts.specs.declared.parts.Parts.{Parts}
use Rattle.px_micro.specs.declared.sight.Going.{Going}
use Rattle.px_micro.specs.Doing.{silent, assigned, sent, updated, failed, done, done_by, kept, kept_cell, writing}
use Rattle.px_parts.specs.Parts.{plan_in, world_in, record_of, value_in, AreStanding}
use Rattle.px_micro.specs.declared.places.Place.{Place}
use Rattle.px_micro.specs.Places.{place_data, place_now}
use Rattle.px_micro.specs.Turns.{effects_in, IsDone, AreEffects}
use Rattle.px_parts.proofs.Found.{record_is}
use Rattle.px_micro.proofs.Targets.{HasCells, has_cells, value_held, place_is}

-- ---- one row

abbrev own_act : Parts → ℕ → Act
own_act parts node = act_of parts.actions.contents.values node

abbrev own_action : Parts → ℕ → Act → Action
own_action parts node act =
    action_in act (held parts.cells.contents.values (handle_cell (plan_in parts) node))
    (held parts.cells.contents.values (acknowledgement_cell (plan_in parts) node))

-- nothing is done
still : (parts : Parts) (node : ℕ) (body : BodyData) → fits (plan_in parts) body (own_act parts node) ≡ true
    → IsDone parts node body (silent under_way.Kept) (sem.silent (record_of parts node).action)
still parts node body fit = record { write = refl; action = refl; fits = fit; told = refl }

-- a body that does nothing has nothing under way
idle : (plan : List Site) (act : Act) (h a : Value) → fits plan Nothing act ≡ true → action_in act h a ≡ NoAction
idle plan acts.Idle h a fit = refl
idle plan acts.Unwritten h a fit = absurd (cc fit)
idle plan (acts.Scalar old) h a fit = absurd (cc fit)
idle plan (acts.Element index old) h a fit = absurd (cc fit)
idle plan (acts.Sent index abort) h a fit = absurd (cc fit)
idle plan acts.Updated h a fit = absurd (cc fit)

nothing : (parts : Parts) (node : ℕ) → fits (plan_in parts) Nothing (own_act parts node) ≡ true
    → IsDone parts node Nothing (silent under_way.Kept) (sem.silent NoAction)
nothing parts node fit = record {
  write = refl;
  action = idle (plan_in parts) (own_act parts node) (held parts.cells.contents.values (handle_cell (plan_in parts) node))
      (held parts.cells.contents.values (acknowledgement_cell (plan_in parts) node)) fit;
  fits = fit;
  told = refl;
}

-- a node is made as new
fresh : (parts : Parts) (node : ℕ) (body : BodyData)
    → IsDone parts node body (silent (under_way.Begun acts.Idle)) (sem.silent NoAction)
fresh parts node body = record { write = refl; action = refl; fits = refl; told = refl }

-- ---- an assignment starts

pub place_inside : (size : ℕ) (at : Value) (place : ℕ) → place_in size at ≡ Some place → nat_lt place size ≡ true
place_inside size (values.Integer (pos number)) place is = grind (arith, common_steps, nat_lt)
place_inside size (values.Integer (negsuc number)) place is = absurd (cc is)
place_inside size values.Unknown place is = absurd (cc is)
place_inside size (values.Boolean truth) place is = absurd (cc is)
place_inside size (values.Text text) place is = absurd (cc is)
place_inside size (values.State state) place is = absurd (cc is)
place_inside size (values.Outcome outcome) place is = absurd (cc is)
place_inside size (values.Failure failure) place is = absurd (cc is)
place_inside size (values.Handle handle) place is = absurd (cc is)

-- by a variable that has cells, and a right side that has a value
assigns_as : (parts : Parts) (node : ℕ) (owner name : List ℕ) (index : Option Term) (right : Term)
    → HasCells parts owner name
    → as_kind (kind_of (plan_in parts) owner name) (value_in parts (numbered (plan_in parts) right))
    ≡ taken_as (plan_in parts) (record { owner = owner; name = name; index = index }) (value (plan_in parts) (world_in parts) right)
    → ((term : Term) → index ≡ Some term
    → value_in parts (numbered (plan_in parts) term) ≡ value (plan_in parts) (world_in parts) term)
    → IsDone parts node (Assign (record { owner = owner; name = name; index = index }) right)
    (assigned parts (record { owner = owner; name = name; index = index })
    (numbered_target (plan_in parts) (record { owner = owner; name = name; index = index }))
    (value_in parts (numbered (plan_in parts) right)))
    (sem.assigns (plan_in parts) (world_in parts) (record { owner = owner; name = name; index = index }) right)
assigns_as parts node owner name None right has taken at = record {
  write = ap (λ value. Some (record {
    variable = (place_of (plan_in parts) owner name).first;
    cell = (place_of (plan_in parts) owner name).first + 0;
    value = value;
  })) taken;
  action = ap (λ old. world.Assigned (Some (record { place = world.Whole; old = old })))
      (value_held parts owner name world.Whole has has.some);
  fits = refl;
  told = ap (λ value. Some (told_write (record { owner = owner; name = name; place = world.Whole; value = value }))) taken;
}
assigns_as parts node owner name (Some term) right has taken at =
    by (place_in size (value_in parts (numbered plan term))) refl
  where
    plan : List Site
    plan = plan_in parts

    size : ℕ
    size = (place_of plan owner name).size

    target : TargetData
    target = record { owner = owner; name = name; index = Some term }

    -- the semantics takes the same index
    there : (place : Option ℕ) → place_in size (value_in parts (numbered plan term)) ≡ place
        → sem.place_of plan (world_in parts) target ≡ option_map world.Element place
    there place is =
        ap (option_map world.Element)
        (ap (value_index (cells_at plan (world_in parts) owner name)) (sym (at term refl))
        ∙ index_is (cells_at plan (world_in parts) owner name) size (value_in parts (numbered plan term)) has.long
        ∙ is)

    by : (place : Option ℕ) → place_in size (value_in parts (numbered plan term)) ≡ place
        → IsDone parts node (Assign target right)
        (assigned parts target (numbered_target plan target) (value_in parts (numbered plan right)))
        (sem.assigns plan (world_in parts) target right)
    by None is = rw (is, there None is) (record { write = refl; action = refl; fits = refl; told = refl })
    by (Some index) is = rw (is, there (Some index) is) (record {
      write = ap (λ value. Some (record {
        variable = (place_of plan owner name).first;
        cell = (place_of plan owner name).first + index;
        value = value;
      })) taken;
      action = ap (λ old. world.Assigned (Some (record { place = world.Element index; old = old })))
          (value_held parts owner name (world.Element index) has (ltb-true index size inside));
      fits = inside;
      told = ap (λ value. Some (told_write (record { owner = owner; name = name; place = world.Element index; value = value }))) taken;
    })
      where
        inside : nat_lt index size ≡ true
        inside = place_inside size (value_in parts (numbered plan term)) index is

-- ---- a command or an update starts

-- the index of a result
index_taken : (parts : Parts) (owner name : List ℕ) (index : Option Term) → HasCells parts owner name
    → ((term : Term) → index ≡ Some term
    → value_in parts (numbered (plan_in parts) term) ≡ value (plan_in parts) (world_in parts) term)
    → option_and_then (λ place. index_of (place_data place))
    (place_now parts (numbered_target (plan_in parts) (record { owner = owner; name = name; index = index })))
    ≡ option_and_then index_of (sem.place_of (plan_in parts) (world_in parts) (record { owner = owner; name = name; index = index }))
index_taken parts owner name index has at = grind (arith, common_steps, place_is)

-- it lies within the array
taken_fits : (parts : Parts) (command owner name : List ℕ) (args : List Term) (index : Option Term)
    → fits (plan_in parts) (Command command args (Some (record { owner = owner; name = name; index = index })))
    (acts.Sent (option_and_then (λ place. index_of (place_data place))
    (place_now parts (numbered_target (plan_in parts) (record { owner = owner; name = name; index = index })))) aborts.NotAsked)
    ≡ true
taken_fits parts command owner name args None = refl
taken_fits parts command owner name args (Some term) = grind (arith, common_steps, place_inside)

abbrev HasWorth : Parts → Term → Type 0
HasWorth parts = HasValue (plan_in parts) parts.cells.contents.values parts.reports.reports parts.actions.contents.values

-- the values of terms of some items
values_are : {X : Type 0} (parts : Parts) (term : X → Term) (items : List X) → All (λ item. HasWorth parts (term item)) items
    → map (value_in parts) (map (λ item. numbered (plan_in parts) (term item)) items)
    ≡ map (λ item. value (plan_in parts) (world_in parts) (term item)) items
values_are parts term items worth =
    map-map (value_in parts) (λ item. numbered (plan_in parts) (term item)) items
    ∙ map-same (λ item. value_in parts (numbered (plan_in parts) (term item)))
    (λ item. value (plan_in parts) (world_in parts) (term item)) items worth

sends_as : (parts : Parts) (node : ℕ) (name : List ℕ) (args : List Term) (result : Option TargetData)
    → All (HasWorth parts) args
    → ((target : TargetData) → result ≡ Some target → HasCells parts target.owner target.name)
    → ((target : TargetData) (term : Term) → result ≡ Some target → target.index ≡ Some term → HasWorth parts term)
    → IsDone parts node (Command name args result)
    (sent parts name (map (numbered (plan_in parts)) args) (option_map (numbered_target (plan_in parts)) result))
    (sem.sends (plan_in parts) (world_in parts) name args result)
sends_as parts node name args None worth has at = record {
  write = refl;
  action = refl;
  fits = refl;
  told = ap (λ given. Some (effects.Sent name given)) (values_are parts (λ (arg : Term). arg) args worth);
}
sends_as parts node name args (Some target) worth has at = record {
  write = refl;
  action = ap (λ index. world.Commanded index None world.NoAbort)
      (index_taken parts target.owner target.name target.index (has target refl) (λ term is. at target term refl is));
  fits = taken_fits parts name target.owner target.name args target.index;
  told = ap (λ given. Some (effects.Sent name given)) (values_are parts (λ (arg : Term). arg) args worth);
}

updates_as : (parts : Parts) (node : ℕ) (pairs : List PairData) → All (HasWorth parts) (map (λ pair. pair.value) pairs)
    → IsDone parts node (Update pairs)
    (updated parts pairs (map (λ (pair : PairData). numbered (plan_in parts) pair.value) pairs))
    (sem.updates (plan_in parts) (world_in parts) pairs)
updates_as parts node pairs worth = record {
  write = refl;
  action = refl;
  fits = refl;
  told = ap (λ given. Some (effects.Updated (map (λ (pair : PairData). pair.name) pairs) given))
      (values_are parts (λ (pair : PairData). pair.value) pairs
      (All-unmap (HasWorth parts) (λ (pair : PairData). pair.value) pairs worth));
}

-- ---- a node fails

assign_fails : (parts : Parts) (node : ℕ) (target : TargetData) (right : Term) (act : Act) → own_act parts node ≡ act
    → fits (plan_in parts) (Assign target right) act ≡ true
    → IsDone parts node (Assign target right) (failed act (Assign target right) (numbered_body (plan_in parts) (Assign target right)))
    (sem.writes_back target (own_action parts node act))
assign_fails parts node target right acts.Idle is fit =
    record { write = refl; action = ap (own_action parts node) is; fits = ap (fits (plan_in parts) (Assign target right)) is ∙ fit; told = refl }
assign_fails parts node target right acts.Unwritten is fit =
    record { write = refl; action = ap (own_action parts node) is; fits = ap (fits (plan_in parts) (Assign target right)) is ∙ fit; told = refl }
assign_fails parts node target right (acts.Scalar old) is fit =
    record { write = refl; action = ap (own_action parts node) is; fits = ap (fits (plan_in parts) (Assign target right)) is ∙ fit; told = refl }
assign_fails parts node target right (acts.Element index old) is fit =
    record { write = refl; action = ap (own_action parts node) is; fits = ap (fits (plan_in parts) (Assign target right)) is ∙ fit; told = refl }
assign_fails parts node target right (acts.Sent index abort) is fit = absurd (cc fit)
assign_fails parts node target right acts.Updated is fit = absurd (cc fit)

command_fails : (parts : Parts) (node : ℕ) (name : List ℕ) (args : List Term) (result : Option TargetData) (act : Act)
    → own_act parts node ≡ act → fits (plan_in parts) (Command name args result) act ≡ true
    → IsDone parts node (Command name args result)
    (failed act (Command name args result) (numbered_body (plan_in parts) (Command name args result)))
    (sem.aborts name (own_action parts node act))
command_fails parts node name args result acts.Idle is fit = record {
  write = refl;
  action = ap (own_action parts node) is;
  fits = ap (fits (plan_in parts) (Command name args result)) is ∙ fit;
  told = refl;
}
command_fails parts node name args result acts.Unwritten is fit = absurd (cc fit)
command_fails parts node name args result (acts.Scalar old) is fit = absurd (cc fit)
command_fails parts node name args result (acts.Element index old) is fit = absurd (cc fit)
command_fails parts node name args result (acts.Sent index abort) is fit =
    record { write = refl; action = refl; fits = command_fits (plan_in parts) (Command name args result) index abort aborts.Sent fit; told = refl }
command_fails parts node name args result acts.Updated is fit = absurd (cc fit)

-- ---- the whole table

each_row : (parts : Parts) (node : ℕ) (move : sem.MoveKind) (body : BodyData) → AreStanding parts
    → node < length (plan_in parts) → (site_in (plan_in parts) node).head.body ≡ body
    → IsDone parts node body (done parts (own_act parts node) move body (numbered_body (plan_in parts) body))
    (row_of (plan_in parts) (world_in parts) (record_of parts node) move body)
each_row parts node move body stand here is = by move body is
  where
    plan : List Site
    plan = plan_in parts

    own : Act
    own = own_act parts node

    fit : (body : BodyData) → (site_in plan node).head.body ≡ body → fits plan body own ≡ true
    fit body is = ap (λ body. fits plan body own) (sym is) ∙ (stand.nodes node here).act

    have : (body : BodyData) → (site_in plan node).head.body ≡ body → All (HasWorth parts) (terms_of body)
    have body is =
        subst (λ body. All (HasWorth parts) (terms_of body)) is
        (have_values plan parts.cells.contents.values parts.reports.reports parts.actions.contents.values node
        (flat_sound parts.flat) here stand).body

    indices : (body : BodyData) → (site_in plan node).head.body ≡ body
        → All (λ target. ForSome target.index (HasWorth parts)) (targets_of body)
    indices body is =
        subst (λ body. All (λ target. ForSome target.index (HasWorth parts)) (targets_of body)) is
        (have_values plan parts.cells.contents.values parts.reports.reports parts.actions.contents.values node
        (flat_sound parts.flat) here stand).indices

    declared : (body : BodyData) (target : TargetData) → (site_in plan node).head.body ≡ body → target_of body ≡ Some target
        → IsDeclared plan target.owner target.name
    declared body target is of =
        target_declared plan node target (flat_sound parts.flat) here (ap target_of is ∙ of)

    cells : (body : BodyData) (target : TargetData) → (site_in plan node).head.body ≡ body → target_of body ≡ Some target
        → HasCells parts target.owner target.name
    cells body target is of = has_cells parts target.owner target.name stand (declared body target is of)

    by : (move : sem.MoveKind) (body : BodyData) → (site_in plan node).head.body ≡ body
        → IsDone parts node body (done parts own move body (numbered_body plan body))
        (row_of plan (world_in parts) (record_of parts node) move body)
    by sem.Initializes Nothing is = fresh parts node Nothing
    by sem.Initializes (Assign target right) is = fresh parts node (Assign target right)
    by sem.Initializes (Command name args result) is = fresh parts node (Command name args result)
    by sem.Initializes (Update pairs) is = fresh parts node (Update pairs)
    by sem.Resets Nothing is = fresh parts node Nothing
    by sem.Resets (Assign target right) is = fresh parts node (Assign target right)
    by sem.Resets (Command name args result) is = fresh parts node (Command name args result)
    by sem.Resets (Update pairs) is = fresh parts node (Update pairs)
    by sem.Starts Nothing is = nothing parts node (fit Nothing is)
    by sem.Starts (Assign target right) is =
        let worth : value_in parts (numbered plan right) ≡ value plan (world_in parts) right =
        have (Assign target right) is 0 right (omega arith) in
        assigns_as parts node target.owner target.name target.index right
        (cells (Assign target right) target is refl)
        (ap (as_kind (kind_of plan target.owner target.name)) worth
        ∙ sym (taken_alike plan target (value plan (world_in parts) right) (flat_sound parts.flat)
        (declared (Assign target right) target is refl)))
        (λ term at. indices (Assign target right) is 0 target (omega arith) term at)
    by sem.Starts (Command name args None) is =
        sends_as parts node name args None (have (Command name args None) is)
        (λ target none. absurd (cc none)) (λ target term none at. absurd (cc none))
    by sem.Starts (Command name args (Some result)) is =
        sends_as parts node name args (Some result) (have (Command name args (Some result)) is)
        (λ target same. subst (λ target. HasCells parts target.owner target.name) (same_Some result target same)
        (cells (Command name args (Some result)) result is refl))
        (λ target term same at. indices (Command name args (Some result)) is 0 result (omega arith) term
        (ap (λ (target : TargetData). target.index) (same_Some result target same) ∙ at))
    by sem.Starts (Update pairs) is = updates_as parts node pairs (have (Update pairs) is)
    by sem.Fails Nothing is = nothing parts node (fit Nothing is)
    by sem.Fails (Assign target right) is =
        assign_fails parts node target right own refl (fit (Assign target right) is)
    by sem.Fails (Command name args result) is =
        command_fails parts node name args result own refl (fit (Command name args result) is)
    by sem.Fails (Update pairs) is = still parts node (Update pairs) (fit (Update pairs) is)
    by sem.Other Nothing is = nothing parts node (fit Nothing is)
    by sem.Other (Assign target right) is = still parts node (Assign target right) (fit (Assign target right) is)
    by sem.Other (Command name args result) is =
        still parts node (Command name args result) (fit (Command name args result) is)
    by sem.Other (Update pairs) is = still parts node (Update pairs) (fit (Update pairs) is)

pub effects_are : (parts : Parts) (going : Going) → AreStanding parts → going.node < length (plan_in parts)
    → AreEffects parts going (done_by parts going)
effects_are parts going stand here =
    let plan : List Site = plan_in parts in
    let now : World = world_in parts in
    let node : ℕ = going.node in
    let site : Site = site_in plan node in
    let move : sem.MoveKind = move_kind (record_of parts node).state going.arrival.to in
    let are : effects_in parts going ≡ row_of plan now (record_of parts node) move site.head.body =
    ap (λ (r : NodeRecord). row_of plan now r (move_kind r.state going.arrival.to) site.head.body) (record_is parts node here) in
    subst (IsDone parts node site.head.body (done_by parts going)) (sym are)
    (each_row parts node move site.head.body stand here refl)

-- by what is seen of the node
pub done_as : (parts : Parts) (going : Going) (move : sem.MoveKind) (act : Act) (body : BodyData) (numbered : BodyNumbered)
    (made : Effects) → AreStanding parts → going.node < length (plan_in parts)
    → move ≡ move_kind (record_of parts going.node).state going.arrival.to → own_act parts going.node ≡ act
    → body ≡ (site_in (plan_in parts) going.node).head.body
    → numbered ≡ numbered_body (plan_in parts) (site_in (plan_in parts) going.node).head.body
    → made ≡ done parts act move body numbered → AreEffects parts going made
done_as parts going move act body numbered made stand here move_is act_is body_is numbered_is is =
    subst (AreEffects parts going)
    (sym (is ∙ (λ i. done parts (sym act_is i) (move_is i) (body_is i) (numbered_is i))))
    (effects_are parts going stand here)

-- the cell that was kept is one of the plan
pub kept_small : (parts : Parts) (node : ℕ) (act : Act) (numbered : BodyNumbered) → AreStanding parts
    → node < length (plan_in parts) → own_act parts node ≡ act
    → numbered ≡ numbered_body (plan_in parts) (site_in (plan_in parts) node).head.body
    → ForSome (kept_cell act numbered) (λ cell. cell < 2 ^ 32)
kept_small parts node act numbered stand here act_is numbered_is =
    subst (λ numbered. ForSome (kept_cell act numbered) (λ cell. cell < 2 ^ 32)) (sym numbered_is)
    (by (site_in plan node).head.body act (ap (fits plan (site_in plan node).head.body) (sym act_is) ∙ (stand.nodes node here).act)
    (node_is_within plan node (flat_sound parts.flat) here).body)
  where
    plan : List Site
    plan = plan_in parts

    few : variable_cells plan ≤ 131072
    few = (flat_sound parts.flat).cells

    by : (body : BodyData) (act : Act) → fits plan body act ≡ true → IsBodyWithin plan (numbered_body plan body)
        → ForSome (kept_cell act (numbered_body plan body)) (λ cell. cell < 2 ^ 32)
    by Nothing act fit within = λ cell none. absurd (cc none)
    by (Assign target right) acts.Idle fit within = λ cell none. absurd (cc none)
    by (Assign target right) acts.Unwritten fit within = λ cell none. absurd (cc none)
    by (Assign target right) (acts.Scalar old) fit within = λ cell is.
        let at : (place_of plan target.owner target.name).first + 0 ≡ cell = cc is in
        omega (arith, at, within.0.place.within, few)
    by (Assign target right) (acts.Element index old) fit within = λ cell is.
        let at : (place_of plan target.owner target.name).first + index ≡ cell = cc is in
        let inside : index < (place_of plan target.owner target.name).size =
        ltb-true index (place_of plan target.owner target.name).size
        (and_parts (is_some target.index) (nat_lt index (place_of plan target.owner target.name).size) fit).1 in
        omega (arith, at, inside, within.0.place.within, few)
    by (Assign target right) (acts.Sent index abort) fit within = λ cell none. absurd (cc none)
    by (Assign target right) acts.Updated fit within = λ cell none. absurd (cc none)
    by (Command name args result) act fit within = λ cell none. absurd (cc none)
    by (Update pairs) act fit within = λ cell none. absurd (cc none)

-- an assignment that has a place
pub assigned_at : (parts : Parts) (target : TargetData) (numbers : TargetNumbered) (given : Value) (place : Place)
    → place_now parts numbers ≡ Some place
    → assigned parts target numbers given
    ≡ writing target numbers.place.first place (as_kind numbers.kind given)
    (under_way.Begun (kept place
    (held parts.cells.contents.values (numbers.place.first + cell_of (place_data place)))))
assigned_at parts target numbers given place is = rw is refl

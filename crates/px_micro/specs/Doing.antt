-- What the move of a node does, in numbers: the table of effects over the parts.
use Rattle.std.specs.Prelude.{ℕ, ◌+◌, List, map, Option, Some, None}
use Rattle.std.specs.Option.{option_map, option_and_then}
use Rattle.px_value.specs.declared.value.Value.{Value}
use Rattle.px_core.specs.Plan.{BodyData, Assign, Command, Update, TargetData, PairData}
use Rattle.px_sem.specs.declared.moves.Effect.TheVariants as effects
use Rattle.px_sem.specs.Effects as sem
use Rattle.px_sem.specs.Effects.{as_kind, cell_of, index_of, move_kind, told_write}
use Rattle.px_sem.specs.World as world
use Rattle.px_flat.specs.declared.act.Abort.TheVariants as aborts
use Rattle.px_flat.specs.declared.act.Act.{Act}
use Rattle.px_flat.specs.declared.act.Act.TheVariants as acts
use Rattle.px_flat.specs.Numbered.{Numbered, TargetNumbered, BodyNumbered, held, numbered_body}
use Rattle.px_flat.specs.Numbered as numbers
use Rattle.px_flat.specs.Parts.{act_of}
use Rattle.px_flat.specs.Row.{site_in}
use Rattle.px_micro.specs.declared.effects.Effects.{Effects}
use Rattle.px_micro.specs.declared.kinds.MoveKind.{MoveKind}
use Rattle.px_micro.specs.declared.kinds.MoveKind.TheVariants as kinds
use Rattle.px_micro.specs.declared.effects.UnderWay.{UnderWay}
use Rattle.px_micro.specs.declared.effects.UnderWay.TheVariants as under_way
use Rattle.px_parts.specs.declared.parts.Parts.{Parts}
use Rattle.px_micro.specs.declared.places.Place.{Place}
use Rattle.px_micro.specs.declared.places.Place.TheVariants as places
use Rattle.px_micro.specs.declared.sight.Going.{Going}
use Rattle.px_parts.specs.Parts.{plan_in, record_of, value_in}
use Rattle.px_micro.specs.Places.{place_data, place_now}

-- which move it is, as the semantics has it
abbrev pub kind_data : MoveKind → sem.MoveKind
kind_data kinds.Initializes = sem.Initializes
kind_data kinds.Resets = sem.Resets
kind_data kinds.Starts = sem.Starts
kind_data kinds.Fails = sem.Fails
kind_data kinds.Other = sem.Other

-- nothing is written, and nothing is told
abbrev pub silent : UnderWay → Effects
silent way = record { write = None; under_way = way; told = None }

-- a write at a place of a target that has this first cell, which is told
abbrev pub writing : TargetData → ℕ → Place → Value → UnderWay → Effects
writing target first place value way = record {
  write = Some (record { variable = first; cell = first + cell_of (place_data place); value = value });
  under_way = way;
  told = Some (told_write (record { owner = target.owner; name = target.name; place = place_data place; value = value }));
}

-- what is kept of what an assignment writes over
abbrev pub kept : Place → Value → Act
kept places.Whole old = acts.Scalar old
kept (places.Element index) old = acts.Element index old

-- the place of what was kept
abbrev pub kept_place : Act → Option world.Place
kept_place (acts.Scalar old) = Some world.Whole
kept_place (acts.Element index old) = Some (world.Element index)
kept_place act = None

-- the cell that it came from
abbrev pub kept_cell : Act → BodyNumbered → Option ℕ
kept_cell act (numbers.Assign numbered right) =
    option_map (λ place. numbered.place.first + cell_of place) (kept_place act)
kept_cell act numbered = None

-- an assignment of a value
abbrev pub assigned : Parts → TargetData → TargetNumbered → Value → Effects
assigned parts target numbered value = at (place_now parts numbered)
  where
    at : Option Place → Effects
    at None = record { write = None; under_way = under_way.Begun acts.Unwritten; told = Some effects.NoWrite }
    at (Some place) =
        writing target numbered.place.first place (as_kind numbered.kind value)
        (under_way.Begun (kept place
        (held parts.cells.contents.values (numbered.place.first + cell_of (place_data place)))))

-- a command of this name
abbrev pub sent : Parts → List ℕ → List Numbered → Option TargetNumbered → Effects
sent parts name args result = record {
  write = None;
  under_way = under_way.Begun (acts.Sent
      (option_and_then (λ place. index_of (place_data place)) (option_and_then (place_now parts) result)) aborts.NotAsked);
  told = Some (effects.Sent name (map (value_in parts) args));
}

-- an update of these names
abbrev pub updated : Parts → List PairData → List Numbered → Effects
updated parts pairs values = record {
  write = None;
  under_way = under_way.Begun acts.Updated;
  told = Some (effects.Updated (map (λ pair. pair.name) pairs) (map (value_in parts) values));
}

abbrev pub started : Parts → BodyData → BodyNumbered → Effects
started parts (Assign target value) (numbers.Assign numbered right) = assigned parts target numbered (value_in parts right)
started parts (Command name args result) (numbers.Command given taken) = sent parts name given taken
started parts (Update pairs) (numbers.Update values) = updated parts pairs values
started parts body numbered = silent under_way.Kept

-- what was kept is written back
abbrev pub written_back : TargetData → TargetNumbered → Act → Effects
written_back target numbered (acts.Scalar old) = writing target numbered.place.first places.Whole old under_way.Kept
written_back target numbered (acts.Element index old) =
    writing target numbered.place.first (places.Element index) old under_way.Kept
written_back target numbered act = silent under_way.Kept

-- a command is asked to abort
abbrev pub asked : Act → UnderWay
asked (acts.Sent index abort) = under_way.Aborting index
asked act = under_way.Kept

abbrev pub failed : Act → BodyData → BodyNumbered → Effects
failed act (Assign target value) (numbers.Assign numbered right) = written_back target numbered act
failed act (Command name args result) numbered =
    record { write = None; under_way = asked act; told = Some (effects.Aborted name) }
failed act body numbered = silent under_way.Kept

-- a move of a node with this body
abbrev pub done : Parts → Act → sem.MoveKind → BodyData → BodyNumbered → Effects
done parts act sem.Initializes body numbered = silent (under_way.Begun acts.Idle)
done parts act sem.Resets body numbered = silent (under_way.Begun acts.Idle)
done parts act sem.Starts body numbered = started parts body numbered
done parts act sem.Fails body numbered = failed act body numbered
done parts act sem.Other body numbered = silent under_way.Kept

abbrev pub done_by : Parts → Going → Effects
done_by parts going =
    done parts (act_of parts.actions.contents.values going.node)
    (move_kind (record_of parts going.node).state going.arrival.to)
    (site_in (plan_in parts) going.node).head.body
    (numbered_body (plan_in parts) (site_in (plan_in parts) going.node).head.body)

-- A target in numbers is the target of the plan: its place, and what stands there.
use Rattle.std.proofs.Common.{◌≡◌, ℕ, ◌+◌, ◌<◌, ◌≤◌, List, length, take, drop, refl, ap, ◌∙◌, arith, Option, Some, None, length-drop}
use Rattle.std.proofs.lemmas.Grind.{common_steps}
use Rattle.std.specs.Option.{option_map}
use Rattle.std.proofs.lemmas.List.{get_or-take, get_or-drop, length-take}
use Rattle.px_value.specs.declared.value.Value.{Value}
use Rattle.px_value.specs.declared.value.Value.TheVariants as values
use Rattle.px_core.specs.Expr.{Term}
use Rattle.px_core.specs.Plan.{Site}
use Rattle.px_sem.specs.Effects.{cell_of, value_at}
use Rattle.px_sem.specs.Effects as sem
use Rattle.px_sem.specs.Expressions.{value}
use Rattle.px_sem.specs.World as world
use Rattle.px_sem.specs.World.{cells_at}
use Rattle.px_flat.specs.Layout.{Place}
use Rattle.px_flat.specs.Numbered.{held, numbered, numbered_target, place_of}
use Rattle.px_flat.specs.Within.{IsPlace}
use Rattle.px_flat.proofs.Tables.{flat_sound}
use Rattle.px_flat.proofs.VariableValues.{placed}
use Rattle.px_flat.proofs.Variables.{IsDeclared, declared_place}
use Rattle.px_eval.proofs.Elements.{index_is}
use Rattle.px_parts.specs.declared.parts.Parts.{Parts}
use Rattle.px_parts.specs.Parts.{plan_in, world_in, value_in, AreStanding}
use Rattle.px_micro.specs.Places.{place_data, place_now}

-- ---- the cells of a variable

-- the values of a declared variable stand at its place
pub record HasCells (parts : Parts) (owner name : List ℕ) : Type 0 where
  pub cells : cells_at (plan_in parts) (world_in parts) owner name
      ≡ take (place_of (plan_in parts) owner name).size (drop (place_of (plan_in parts) owner name).first parts.cells.contents.values)
  pub long : length (cells_at (plan_in parts) (world_in parts) owner name) ≡ (place_of (plan_in parts) owner name).size
  pub some : 0 < (place_of (plan_in parts) owner name).size

pub has_cells : (parts : Parts) (owner name : List ℕ) → AreStanding parts → IsDeclared (plan_in parts) owner name
    → HasCells parts owner name
has_cells parts owner name stand declared =
    let plan : List Site = plan_in parts in
    let place : Place = place_of plan owner name in
    let all : List Value = parts.cells.contents.values in
    let are = placed plan all parts.reports.reports parts.actions.contents.values owner name declared.node
    (flat_sound parts.flat).distinct declared.within declared.path_is declared.has in
    let inside : IsPlace plan place = declared_place plan owner name (flat_sound parts.flat) declared in
    let within : place.first + place.size ≤ length all = omega (arith, stand.all_cells, inside.within) in
    record {
      cells = are.values_are;
      long = ap length are.values_are
          ∙ omega (arith, length-take place.size (drop place.first all), length-drop place.first all, within);
      some = inside.some;
    }

-- the value at a place of a variable
pub value_held : (parts : Parts) (owner name : List ℕ) (place : world.Place) → HasCells parts owner name
    → cell_of place < (place_of (plan_in parts) owner name).size
    → held parts.cells.contents.values ((place_of (plan_in parts) owner name).first + cell_of place)
    ≡ value_at (cells_at (plan_in parts) (world_in parts) owner name) place
value_held parts owner name place has inside = grind (arith, common_steps, get_or-take, get_or-drop)

-- ---- its place

-- the place of a target, whose index has the value of the plan's own expression
pub place_is : (parts : Parts) (owner name : List ℕ) (index : Option Term) → HasCells parts owner name
    → ((term : Term) → index ≡ Some term
    → value_in parts (numbered (plan_in parts) term) ≡ value (plan_in parts) (world_in parts) term)
    → option_map place_data (place_now parts (numbered_target (plan_in parts) (record { owner = owner; name = name; index = index })))
    ≡ sem.place_of (plan_in parts) (world_in parts) (record { owner = owner; name = name; index = index })
place_is parts owner name None has worth = refl
place_is parts owner name (Some term) has worth = grind (arith, common_steps, index_is)

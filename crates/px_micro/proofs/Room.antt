-- How many cells a step puts.
use Rattle.std.proofs.Common.{◌≡◌, ℕ, suc, ◌+◌, ◌*◌, ◌^◌, ◌<◌, ◌≤◌, Bool, true, false, List, [], ◌∷◌, length, fold, get_or, map, refl, ap, sym, ◌∙◌, subst, arith, length-append, if◌then◌else◌, Option, All, AllPairs}
use Rattle.std.proofs.lemmas.Grind.{common_steps}
use Rattle.std.specs.List.{flat_map, filter_map}
use Rattle.std.proofs.lemmas.List.{length-map}
use Rattle.std.proofs.lemmas.List.Concat.{length-flat_map}
use Rattle.std.proofs.lemmas.List.Elements.{All-map}
use Rattle.std.proofs.lemmas.List.Sums.{sum_by-le}
use Rattle.std.proofs.lemmas.Map.Keys.{sorted_from_strictly_increasing}
use Rattle.std.proofs.lemmas.Map.Views.{length-le_from_below}
use Rattle.px_value.specs.declared.value.Value.{Value}
use Rattle.px_core.specs.Plan.{Site}
use Rattle.px_flat.specs.Layout.{first_cell, variable_cells}
use Rattle.px_flat.proofs.Tables.{flat_sound}
use Rattle.px_flat.proofs.Variables.{cells_within}
use Rattle.px_micro.specs.declared.effects.CellWrite.{CellWrite}
use Rattle.px_parts.specs.declared.parts.Parts.{Parts}
use Rattle.px_micro.specs.declared.sight.Going.{Going}
use Rattle.px_micro.specs.declared.turns.Turn.{Turn}
use Rattle.px_micro.specs.declared.turns.Turns.{Turns}
use Rattle.px_micro.specs.Going.{AreAllGoing}
use Rattle.px_parts.specs.Parts.{plan_in, world_in}
use Rattle.px_micro.specs.Turns.{begins, from_cell, initial_in, initial_of, with_write, written_in, AreTurns}
use Rattle.px_micro.proofs.Initial.{initial_cells}
use Rattle.px_micro.proofs.Lists.{pairs_map}

-- ---- no more nodes go than there are

pub few_go : (n : ℕ) (ones : List Going) → AllPairs (λ a b. a.node < b.node) ones → All (λ one. one.node < n) ones
    → length ones ≤ n
few_go n ones rise within =
    let nodes : List ℕ = map (λ (one : Going). one.node) ones in
    subst (λ count. count ≤ n) (length-map ones (λ (one : Going). one.node))
    (length-le_from_below n nodes
    (sorted_from_strictly_increasing nodes
    (λ k inside. pairs_map (λ (a b : ℕ). a < b) (λ (one : Going). one.node) ones rise k (k + 1) 0 (omega arith) inside))
    (All-map (λ (node : ℕ). node < n) (λ (one : Going). one.node) ones within))

-- ---- their writes

length-filter_map : {A B : Type 0} (f : A → Option B) (xs : List A) → length (filter_map f xs) ≤ length xs
length-filter_map f [] = omega arith
length-filter_map {A} {B} f (x ∷ xs) = grind (arith, common_steps, length-filter_map f xs)

with_write_few : (writes : List CellWrite) (write : CellWrite) → length (with_write writes write) ≤ length writes + 1
with_write_few writes write = grind (arith, common_steps, length-append)

writes_few : (before writes : List CellWrite) → length (fold with_write before writes) ≤ length before + length writes
writes_few before [] = omega arith
writes_few before (write ∷ writes) =
    omega (arith, writes_few (with_write before write) writes, with_write_few before write)

-- ---- their initial values

from_cell_long : (cell : ℕ) (values : List Value) → length (from_cell cell values) ≡ length values
from_cell_long cell [] = refl
from_cell_long cell (value ∷ values) = ap suc (from_cell_long (cell + 1) values)

initial_few : (parts : Parts) (one : Going) → one.node < length (plan_in parts) → length (initial_in parts one) ≤ 131072
initial_few parts one here = by (begins parts one)
  where
    plan : List Site
    plan = plan_in parts

    few : variable_cells plan ≤ 131072
    few = (flat_sound parts.flat).cells

    by : (b : Bool) → length (if b then from_cell (first_cell plan one.node) (initial_of plan one.node) else []) ≤ 131072
    by true = omega (
      arith,
      from_cell_long (first_cell plan one.node) (initial_of plan one.node),
      initial_cells plan one.node (flat_sound parts.flat) here,
      cells_within plan one.node here,
      few,
    )
    by false = omega arith

initials_few : (parts : Parts) (ones : List Going) → All (λ one. one.node < length (plan_in parts)) ones
    → length (flat_map (initial_in parts) ones) ≤ 131072 * length ones
initials_few parts ones within =
    omega (
      arith,
      length-flat_map (initial_in parts) ones,
      sum_by-le (λ (one : Going). length (initial_in parts one)) 131072 ones
          (λ k d inside. initial_few parts (get_or ones k d) (within k d inside)),
    )

-- ---- all cells that are put

pub turns_small : (parts : Parts) (ones : List Going) (made : Turns) → AreAllGoing (plan_in parts) (world_in parts) ones
    → AreTurns parts ones made
    → length made.writes.items + length made.initial.items + 5 * length made.turns.items < 2 ^ 32
turns_small parts ones made go are =
    omega (
      arith,
      few_go (length (plan_in parts)) ones go.rise go.within,
      (flat_sound parts.flat).few,
      writes,
      initial,
      turns,
    )
  where
    writes : length made.writes.items ≤ length ones
    writes = omega (arith, ap length are.writes, writes_few [] (filter_map (written_in parts) ones), length-filter_map (written_in parts) ones)

    initial : length made.initial.items ≤ 131072 * length ones
    initial = omega (arith, ap length are.initial, initials_few parts ones go.within)

    turns : length made.turns.items ≡ length ones
    turns = sym (length-map made.turns.items (λ (turn : Turn). turn.going)) ∙ ap length are.goers

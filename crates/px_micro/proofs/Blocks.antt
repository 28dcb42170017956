-- The values of variables, by their cells one after another.
use Rattle.std.proofs.Common.{◌≡◌, ◌≢◌, ℕ, suc, zero, ◌+◌, ◌<◌, ◌≤◌, true, List, [], ◌∷◌, ◌++◌, length, get_or, set, take, drop, fold, map, sum, All, refl, ap, sym, ◌∙◌, arith, length-drop}
use Rattle.std.specs.List.{flat_map, list_all}
use Rattle.std.proofs.lemmas.Bool.{and_parts}
use Rattle.std.proofs.lemmas.Grind.{common_steps}
use Rattle.std.proofs.lemmas.List.{ext_get_or, get_or-take, get_or-drop, get_or-set_same, get_or-set_other, get_or_append_left, get_or-append-add, length-set, length-take-le, drop-drop}
use Rattle.std.proofs.lemmas.List.Sums.{fold-append, sum_by-cons}
use Rattle.px_value.specs.declared.value.Value.{Value}
use Rattle.px_value.specs.declared.value.Value.TheVariants as values
use Rattle.px_core.specs.Fit.{cells_of, has_right_cells}
use Rattle.px_core.specs.Plan.{VariableData}
use Rattle.px_sem.specs.Effects.{initial_values}
use Rattle.px_flat.specs.Numbered.{held}
use Rattle.px_flat.specs.Parts.{values_in}
use Rattle.px_micro.specs.Moving.{put_value}
use Rattle.px_micro.specs.Turns.{from_cell}
use Rattle.px_micro.proofs.Hits.{fold_keeps}
use Rattle.px_micro.proofs.Initial.{as_many}

-- ---- blocks of cells

pub block_is : (n first : ℕ) (cells block : List Value) → length block ≡ n → first + n ≤ length cells
    → ((i : ℕ) → i < n → held cells (first + i) ≡ get_or block i values.Unknown)
    → take n (drop first cells) ≡ block
block_is n first cells block long room same =
    let sized : length (take n (drop first cells)) ≡ n =
    length-take-le n (drop first cells) (omega (arith, length-drop first cells, room)) in
    ext_get_or values.Unknown (take n (drop first cells)) block (sized ∙ sym long) (λ i within.
    let inside : i < n = omega (arith, within, sized) in
    get_or-take n (drop first cells) i values.Unknown inside ∙ get_or-drop first cells i values.Unknown ∙ same i inside)

-- ---- initial values

pub values_in-initial : (variables : List VariableData) (first : ℕ) (cells : List Value)
    → list_all has_right_cells variables ≡ true → first + sum (map cells_of variables) ≤ length cells
    → ((i : ℕ) → i < sum (map cells_of variables)
    → held cells (first + i) ≡ get_or (flat_map initial_values variables) i values.Unknown)
    → values_in variables (drop first cells) ≡ map initial_values variables
values_in-initial [] first cells right room same = refl
values_in-initial (variable ∷ variables) first cells right room same =
    let n : ℕ = cells_of variable in
    let both = and_parts (has_right_cells variable) (list_all has_right_cells variables) right in
    let own : List Value = initial_values variable in
    let others : List Value = flat_map initial_values variables in
    let sized : length own ≡ n = as_many variable both.0 in
    let total : sum (map cells_of (variable ∷ variables)) ≡ n + sum (map cells_of variables) =
    sum_by-cons (λ n. n) n (map cells_of variables) in
    let head : take n (drop first cells) ≡ own =
    block_is n first cells own sized (omega (arith, room, total)) (λ i within.
    same i (omega (arith, within, total))
    ∙ get_or_append_left own others values.Unknown i (omega (arith, within, sized))) in
    let rest : values_in variables (drop (first + n) cells) ≡ map initial_values variables =
    values_in-initial variables (first + n) cells both.1 (omega (arith, room, total)) (λ i within.
    let there : first + n + i ≡ first + (n + i) = omega arith in
    ap (held cells) there ∙ same (n + i) (omega (arith, within, total))
    ∙ ap (λ n. get_or (own ++ others) (n + i) values.Unknown) (sym sized)
    ∙ get_or-append-add own others i values.Unknown) in
    λ i. head i ∷ (ap (values_in variables) (drop-drop n first cells) ∙ rest) i

-- ---- values into cells one after another

pub begun_off : (given : List Value) (from : ℕ) (cells : List Value) (cell : ℕ)
    → ((i : ℕ) → i < length given → cell ≢ from + i)
    → held (fold put_value cells (from_cell from given)) cell ≡ held cells cell
begun_off [] from cells cell apart = refl
begun_off (value ∷ given) from cells cell apart =
    begun_off given (from + 1) (set cells from value) cell
    (λ i within same. apart (suc i) (omega (arith, within)) (omega (arith, same)))
    ∙ get_or-set_other cells from cell value values.Unknown (λ same. apart 0 (omega arith) (omega (arith, same)))

pub begun_at : (given : List Value) (from : ℕ) (cells : List Value) (i : ℕ) → i < length given
    → from + length given ≤ length cells
    → held (fold put_value cells (from_cell from given)) (from + i) ≡ get_or given i values.Unknown
begun_at [] from cells i within room = absurd (omega arith)
begun_at (value ∷ given) from cells zero within room = grind (arith, common_steps, begun_off, get_or-set_same)
begun_at (value ∷ given) from cells (suc i) within room =
    let there : from + suc i ≡ from + 1 + i = omega arith in
    ap (held (fold put_value (set cells from value) (from_cell (from + 1) given))) there
    ∙ begun_at given (from + 1) (set cells from value) i (omega (arith, within)) (omega (arith, room, length-set cells from value))

-- the cells that are set are as many as before, and one behind all of those is as it was
module _ {X : Type 0} (place : X → ℕ) (given : X → Value) where
  abbrev all_set : List Value → List X → List Value
  all_set cells items = fold (λ cells item. set cells (place item) (given item)) cells items

  pub set_length : (items : List X) (cells : List Value) → length (all_set cells items) ≡ length cells
  set_length items cells =
      fold_keeps (λ (cells : List Value) (item : X). set cells (place item) (given item)) (λ after. length after ≡ length cells)
      (λ item. Unit {0}) (λ after item fit same. length-set after (place item) (given item) ∙ same) items cells (λ k d within. tt) refl

  pub set_off : (items : List X) (cells : List Value) (bound cell : ℕ) → All (λ item. place item < bound) items → bound ≤ cell
      → held (all_set cells items) cell ≡ held cells cell
  set_off items cells bound cell small far =
      fold_keeps (λ (cells : List Value) (item : X). set cells (place item) (given item)) (λ after. held after cell ≡ held cells cell)
      (λ item. place item < bound) (λ after item before same.
      get_or-set_other after (place item) cell (given item) values.Unknown (λ is. absurd (omega (arith, is, far, before))) ∙ same)
      items cells small refl

-- what is done with the items of each is done with each in turn
pub fold-flat_map : {A B S : Type 0} (step : S → B → S) (f : A → List B) (items : List A) (s : S)
    → fold step s (flat_map f items) ≡ fold (λ s item. fold step s (f item)) s items
fold-flat_map step f [] s = refl
fold-flat_map step f (item ∷ items) s =
    fold-append step s (f item) (flat_map f items) ∙ fold-flat_map step f items (fold step s (f item))

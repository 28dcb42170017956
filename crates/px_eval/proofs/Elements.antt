-- The element of an array that stands in cells.
use Rattle.std.proofs.Common.{◌≡◌, ℕ, ◌+◌, ◌≤◌, ◌<◌, List, length, take, drop, get_or, ap, ◌∙◌, arith, Some, length-drop}
use Rattle.std.proofs.lemmas.List.{get_or-take, get_or-drop, length-take}
use Rattle.px_value.specs.declared.value.Value.{Value}
use Rattle.px_value.specs.declared.value.Value.TheVariants as values
use Rattle.px_value.specs.Value.{place_in, value_index}
use Rattle.px_sem.specs.Expressions.{element}

-- only the number of the elements counts for an index
pub index_is : (cells : List Value) (size : ℕ) (at : Value) → length cells ≡ size → value_index cells at ≡ place_in size at
index_is cells size at long = ap (λ n. place_in n at) long

array_long : (cells : List Value) (first size : ℕ) → first + size ≤ length cells → length (take size (drop first cells)) ≡ size
array_long cells first size within = omega (arith, length-take size (drop first cells), length-drop first cells)

pub element_at : (cells : List Value) (first size : ℕ) (at : Value) (place : ℕ) → first + size ≤ length cells
    → place_in size at ≡ Some place → place < size
    → element (take size (drop first cells)) at ≡ get_or cells (first + place) values.Unknown
element_at cells first size at place within is inside =
    let array : List Value = take size (drop first cells) in
    let there : value_index array at ≡ Some place =
    index_is array size at (array_long cells first size within) ∙ is in
    rw there (get_or-take size (drop first cells) place values.Unknown inside ∙ get_or-drop first cells place values.Unknown)

-- Which row of a table decides.
use Rattle.std.specs.Prelude.{◌≡◌, ℕ, ◌<◌, true, false, List, length, get_or}
use Rattle.px_value.specs.declared.enums.NodeState.TheVariants.{Inactive}
use Rattle.px_sem.specs.Table.{Row, to}

-- the row at a place; behind the last row none holds
abbrev pub row_at : List Row → ℕ → Row
row_at rows i = get_or rows i (false, to Inactive)

-- a row's guard holds, and that of no row before it does
pub record Decides (rows : List Row) (i : ℕ) : Type 0 where
  pub within : i < length rows
  pub holds : (row_at rows i).0 ≡ true
  pub before : (j : ℕ) → j < i → (row_at rows j).0 ≡ false

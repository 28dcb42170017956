-- What the code does to one link, or to one end.
use Rattle.std.specs.Prelude.{ℕ, List, set, Option, Some, None, if◌then◌else◌}
use Rattle.px_value.specs.General.{is_number}
use Rattle.px_links.specs.declared.cell.Cell.{Cell}
use Rattle.px_links.specs.Keeping.{cell_at}

-- what was to the cell is to the other one instead
abbrev pub past : ℕ → Option ℕ → Option ℕ → Option ℕ
past cell other link = if is_number link cell then other else link

-- a cell's link on is set, where there is such a cell
abbrev pub with_next : Option ℕ → Option ℕ → List Cell → List Cell
with_next None next cells = cells
with_next (Some at) next cells =
    set cells at (record { next = next; before = (cell_at cells at).before; holder = (cell_at cells at).holder })

-- the same of its link back
abbrev pub with_before : Option ℕ → Option ℕ → List Cell → List Cell
with_before None before cells = cells
with_before (Some at) before cells =
    set cells at (record { next = (cell_at cells at).next; before = before; holder = (cell_at cells at).holder })

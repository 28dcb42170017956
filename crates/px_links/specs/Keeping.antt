-- Which links stand for lists.
use Rattle.std.specs.Prelude.{ℕ, zero, suc, ◌≡◌, ◌≢◌, List, [], ◌∷◌, map, length, slice_index_or, Option, Some, None, AllPairs}
use Rattle.px_value.specs.General.{is_number}
use Rattle.px_links.specs.declared.cell.Cell.{Cell}
use Rattle.px_links.specs.declared.cell.Ends.{Ends}
use Rattle.px_links.specs.declared.links.Links.TheInside.{Inside}
use Rattle.px_links.specs.Links.{LinksData}
use Rattle.px_links.specs.Lists.{has, nth}

-- a cell that is in no list
abbrev pub absent_cell : Cell
absent_cell = record { next = None; before = None; holder = None }

-- the links of a cell
abbrev pub cell_at : List Cell → ℕ → Cell
cell_at cells cell = slice_index_or cells cell absent_cell

-- the ends of a list that has no cell
abbrev pub no_ends : Ends
no_ends = record { first = None; last = None }

-- the ends of a list
abbrev pub ends_at : List Ends → ℕ → Ends
ends_at ends list = slice_index_or ends list no_ends

-- the cells from one on by the links, at most so many
abbrev pub walk : (ℕ → Option ℕ) → Option ℕ → ℕ → List ℕ
walk next None most = []
walk next (Some cell) zero = []
walk next (Some cell) (suc most) = cell ∷ walk next (next cell) most

-- each list from its first cell on
abbrev pub lists_in : List Cell → List Ends → List (List ℕ)
lists_in cells ends = map (λ end. walk (λ cell. (cell_at cells cell).next) end.first (length cells)) ends

-- A list's cells are linked both ways, from the first one to the last one; `ahead` stands before the first.
abbrev pub AreLinked : (ℕ → Option ℕ) → (ℕ → Option ℕ) → Option ℕ → Option ℕ → List ℕ → Option ℕ → Type 0
AreLinked next before ahead first [] last = (first ≡ None) × (last ≡ ahead)
AreLinked next before ahead first (cell ∷ list) last =
    (first ≡ Some cell) × (before cell ≡ ahead) × AreLinked next before (Some cell) (next cell) list last

-- The cells and the ends stand for lists: each list is linked and has no cell twice, each cell has the number of the
-- list that has it, and an absent one leads nowhere.
pub record IsTable (cells : List Cell) (ends : List Ends) (lists : List (List ℕ)) : Type 0 where
  pub sized : length ends ≡ length lists
  pub linked : (list : ℕ) → AreLinked (λ cell. (cell_at cells cell).next) (λ cell. (cell_at cells cell).before)
      None (ends_at ends list).first (nth lists list) (ends_at ends list).last
  pub held : (cell list : ℕ) → is_number (cell_at cells cell).holder list ≡ has (nth lists list) cell
  pub absent : (cell : ℕ) → (cell_at cells cell).holder ≡ None → (cell_at cells cell).next ≡ None
  pub once : (list : ℕ) → AllPairs (λ cell other. cell ≢ other) (nth lists list)

-- what a table is to contracts
abbrev pub links_data : Inside → LinksData
links_data links = record { cells = length links.cells.items; lists = lists_in links.cells.items links.ends.items }

-- what every table keeps
abbrev pub IsKept : Inside → Type 0
IsKept links = IsTable links.cells.items links.ends.items (lists_in links.cells.items links.ends.items)

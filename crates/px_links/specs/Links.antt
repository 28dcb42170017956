-- What linked lists are to contracts: for each list the numbers of its cells, in their order.
use Rattle.std.specs.Prelude.{ℕ, ◌≡◌, ◌≢◌, ◌<◌, ◌-◌, Bool, nat_eq, List, [], length, replicate, set, drop, slice_get, Option, Some, None, is_none, All, AllPairs, if◌then◌else◌}
use Rattle.std.specs.List.{concat, position}
use Rattle.std.specs.Option.{option_and_then, unwrap_or}
use Rattle.px_links.specs.Lists.{has, behind, from_cell, nth, with_last, without_cell}

-- how many cells there are, and the lists by their numbers
pub record LinksData : Type 0 where
  pub cells : ℕ
  pub lists : List (List ℕ)

-- each cell of a list is one of the table's, and none is at two places
pub record IsOnce (links : LinksData) : Type 0 where
  pub within : All (λ cell. cell < links.cells) (concat links.lists)
  pub once : AllPairs (λ cell other. cell ≢ other) (concat links.lists)

-- there are as many cells and as many lists
abbrev pub SameCounts : LinksData → LinksData → Type 0
SameCounts old new = (new.cells ≡ old.cells) × (length new.lists ≡ length old.lists)

-- all lists are empty
abbrev pub empty : ℕ → ℕ → LinksData
empty cells lists = record { cells = cells; lists = replicate lists [] }

-- the cell stands behind the others of the list, and the other lists stay
abbrev pub pushed : LinksData → ℕ → ℕ → LinksData
pushed links list cell = record { cells = links.cells; lists = with_last links.lists list cell }

-- the list is without its first cell, and the other lists stay
abbrev pub popped : LinksData → ℕ → LinksData
popped links list = record { cells = links.cells; lists = set links.lists list (drop 1 (nth links.lists list)) }

-- the cell is in no list, and the others stay in order
abbrev pub unlinked : LinksData → ℕ → LinksData
unlinked links cell = record { cells = links.cells; lists = without_cell links.lists cell }

-- the first cell of the list
abbrev pub first_of : LinksData → ℕ → Option ℕ
first_of links list = slice_get (nth links.lists list) 0

-- the number of the list that has the cell
abbrev pub holder_of : LinksData → ℕ → Option ℕ
holder_of links cell = position (λ list. has list cell) links.lists

-- whether no list has the cell
abbrev pub is_absent : LinksData → ℕ → Bool
is_absent links cell = is_none (holder_of links cell)

-- the last cell of the list
abbrev pub last_of : LinksData → ℕ → Option ℕ
last_of links list = slice_get (nth links.lists list) (length (nth links.lists list) - 1)

-- this list has the cell, or none has it; each other cell is held as before
abbrev pub HoldsOthersAsBefore : LinksData → LinksData → ℕ → Option ℕ → Type 0
HoldsOthersAsBefore old new cell holder =
    (other : ℕ) → holder_of new other ≡ (if nat_eq cell other then holder else holder_of old other)

-- the cell behind this one in the list that has it
abbrev pub next_of : LinksData → ℕ → Option ℕ
next_of links cell = option_and_then (λ list. behind (nth links.lists list) cell) (holder_of links cell)

-- the cells from this one on in the list that has it
abbrev pub rest_of : LinksData → Option ℕ → List ℕ
rest_of links None = []
rest_of links (Some cell) = from_cell (nth links.lists (unwrap_or (holder_of links cell) 0)) cell

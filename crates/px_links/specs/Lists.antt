-- Sequences of cell numbers.
use Rattle.std.specs.Prelude.{ℕ, Bool, not, nat_eq, List, [], ◌∷◌, ◌++◌, map, set, slice_index_or, slice_get, Option, None, if◌then◌else◌}
use Rattle.std.specs.List.{list_any, filter}

-- whether a list has a cell
abbrev pub has : List ℕ → ℕ → Bool
has list cell = list_any (nat_eq cell) list

-- a list without a cell
abbrev pub without : List ℕ → ℕ → List ℕ
without list cell = filter (λ other. not (nat_eq cell other)) list

-- the cell behind this one in a list, or none behind the last
abbrev pub behind : List ℕ → ℕ → Option ℕ
behind [] cell = None
behind (first ∷ list) cell = if nat_eq cell first then slice_get list 0 else behind list cell

-- the cells of a list from this one on
abbrev pub from_cell : List ℕ → ℕ → List ℕ
from_cell [] cell = []
from_cell (first ∷ list) cell = if nat_eq cell first then first ∷ list else from_cell list cell

-- the list of a number
abbrev pub nth : List (List ℕ) → ℕ → List ℕ
nth lists list = slice_index_or lists list []

-- the cell stands behind the others of one list
abbrev pub with_last : List (List ℕ) → ℕ → ℕ → List (List ℕ)
with_last lists list cell = set lists list (nth lists list ++ cell ∷ [])

-- each list without the cell
abbrev pub without_cell : List (List ℕ) → ℕ → List (List ℕ)
without_cell lists cell = map (λ list. without list cell) lists

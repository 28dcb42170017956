-- What a path is.
use Rattle.std.specs.Prelude.{ℕ, Bool, ◌&&◌, ◌==◌, nat_le, List, ◌∷◌, ◌++◌, length}
use Rattle.std.specs.List.{list_all, slice_split}
use Rattle.px_value.specs.Name.{is_name}

-- the path of a child: the path of its parent, a dot, and its name
abbrev pub below : List ℕ → List ℕ → List ℕ
below parent name = parent ++ (46 ∷ name)

-- the pieces between the dots
abbrev pub pieces : List ℕ → List (List ℕ)
pieces bytes = slice_split (λ c. c == 46) bytes

-- a path: names joined by dots
abbrev pub is_path : List ℕ → Bool
is_path bytes = list_all is_name (pieces bytes) && nat_le (length bytes) 5000

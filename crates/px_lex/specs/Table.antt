-- Tables of spellings.
use Rattle.std.specs.Prelude.{ℕ, ◌==◌, length, List, Option}
use Rattle.std.specs.List.{filter}
use Rattle.std.specs.Map.{lookup}
use Rattle.std.specs.Str.{bytes_eq}

-- what the first row with this spelling stands for
abbrev pub row_of : {K : Type 0} → List (List ℕ × K) → List ℕ → Option K
row_of rows spelling = lookup (λ key. bytes_eq key spelling) rows

-- the rows whose spelling is so long
abbrev pub of_length : {K : Type 0} → List (List ℕ × K) → ℕ → List (List ℕ × K)
of_length rows long = filter (λ row. length row.0 == long) rows

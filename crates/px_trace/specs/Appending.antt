-- What a failed append leaves.
use Rattle.std.specs.Prelude.{ℕ, List}
use Rattle.std.specs.Io.{StartsWith}

-- the new list begins with the old one
abbrev pub Keeps : List ℕ → List ℕ → Type 0
Keeps old new = StartsWith new old

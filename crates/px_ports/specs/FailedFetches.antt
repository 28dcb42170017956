-- The fetches of a host that failed, as the list of their names.
use Rattle.std.specs.Prelude.{ℕ, List}
use Rattle.std.specs.List.{count_by}
use Rattle.std.specs.Str.{bytes_eq}

-- how often a fetch of this name has failed
abbrev pub failures_in : List (List ℕ) → List ℕ → ℕ
failures_in failed name = count_by (λ other. bytes_eq other name) failed

-- Numbers that are noted, each once in the order of their first notes.
use Rattle.std.specs.Prelude.{ℕ, nat_eq, List, [], ◌∷◌, ◌++◌, if◌then◌else◌}
use Rattle.std.specs.List.{fold, list_any}

-- below which count all numbers are, and those that are noted
pub record NewsData : Type 0 where
  pub count : ℕ
  pub numbers : List ℕ

-- a number is noted where it isn't yet
abbrev pub with_number : List ℕ → ℕ → List ℕ
with_number numbers at = if list_any (nat_eq at) numbers then numbers else numbers ++ at ∷ []

-- these are noted, one after another
abbrev pub with_numbers : List ℕ → List ℕ → List ℕ
with_numbers numbers more = fold with_number numbers more

-- these are the noted ones
abbrev pub noting : NewsData → List ℕ → NewsData
noting news numbers = record { count = news.count; numbers = numbers }

abbrev pub no_news : ℕ → NewsData
no_news count = record { count = count; numbers = [] }

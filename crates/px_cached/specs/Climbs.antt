-- At how many parts is looked from one up to a whole condition.
use Rattle.std.specs.Prelude.{ℕ, zero, suc, ◌+◌, List, length}
use Rattle.px_cached.specs.declared.part.Above.{Above}
use Rattle.px_cached.specs.declared.part.Above.TheVariants as aboves
use Rattle.px_cached.specs.Network.{above_at}

-- at one, and at those from the part above on
abbrev pub and_above : (ℕ → ℕ) → Above → ℕ
and_above looks (aboves.Condition node) = 1
and_above looks (aboves.Part part) = 1 + looks part

-- where no way is longer than so many
abbrev pub climb_within : List Above → ℕ → ℕ → ℕ
climb_within above zero part = 0
climb_within above (suc most) part = and_above (climb_within above most) (above_at above part)

abbrev pub climb : List Above → ℕ → ℕ
climb above part = climb_within above (length above) part

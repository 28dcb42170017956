-- How the cells of a plan are counted.
use Rattle.std.specs.Prelude.{ℕ, ◌+◌, nat_lt, List, Option, Some, None, if◌then◌else◌}
use Rattle.std.specs.List.{fold}
use Rattle.px_syntax.specs.PlanFaults.{Cells}

-- the cells so far, at most the limit, and the token of the declaration with which there were too many
pub record Count : Type 0 where
  pub before : ℕ
  pub passed : Option ℕ

-- a variable more
abbrev pub count_one : Count → Cells → Count
count_one count variable = of_passed count.passed
  where
    of_passed : Option ℕ → Count
    of_passed (Some token) = count
    of_passed None =
        if nat_lt 65536 (count.before + variable.count)
        then record { before = count.before; passed = Some variable.token }
        else record { before = count.before + variable.count; passed = None }

abbrev pub counted : Count → List Cells → Count
counted = fold count_one

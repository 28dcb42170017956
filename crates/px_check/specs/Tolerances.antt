-- How the distinct tolerances of a plan are counted.
use Rattle.std.specs.Prelude.{ℕ, ◌+◌, nat_eq, nat_lt, List, [], ◌∷◌, ◌++◌, length, Option, Some, None, if◌then◌else◌}
use Rattle.std.specs.List.{fold, list_any}
use Rattle.px_syntax.specs.declared.expr.Tolerance.{Tolerance}

-- the distinct tolerances so far, at most the limit, and the token of the one with which there were too many
pub record Met : Type 0 where
  pub before : List ℕ
  pub passed : Option ℕ

-- a tolerance more
abbrev pub meet_one : Met → Tolerance → Met
meet_one met tolerance = of_passed met.passed
  where
    of_passed : Option ℕ → Met
    of_passed (Some token) = met
    of_passed None =
        if list_any (nat_eq tolerance.distance) met.before then met
        else if nat_lt 16 (length met.before + 1)
        then record { before = met.before; passed = Some tolerance.token }
        else record { before = met.before ++ tolerance.distance ∷ []; passed = None }

abbrev pub met_all : Met → List Tolerance → Met
met_all = fold meet_one

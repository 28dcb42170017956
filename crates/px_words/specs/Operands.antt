-- The operands of a command.
use Rattle.std.specs.Prelude.{ℕ, Bool, false, ◌==◌, List, [], ◌∷◌, Option, Some, None, codes, if◌then◌else◌}
use Rattle.std.specs.Option.{option_map}
use Rattle.px_core.specs.Plan.{is_same}

-- a word of at least two bytes that begins with `-`
abbrev pub is_option : List ℕ → Bool
is_option [] = false
is_option (dash ∷ []) = false
is_option (dash ∷ c ∷ cs) = dash == 45

-- The operands: each word up to `--`, which may not look like an option, and every word after it.
abbrev pub operands : List (List ℕ) → Option (List (List ℕ))
operands [] = Some []
operands (word ∷ words) =
    if is_same word (codes "--") then Some words
    else if is_option word then None
    else option_map (λ more. word ∷ more) (operands words)

-- what is made of one operand; of two; of three
abbrev pub of_one : {A : Type 0} → (List ℕ → A) → List (List ℕ) → Option A
of_one make [] = None
of_one make (first ∷ []) = Some (make first)
of_one make (first ∷ second ∷ more) = None

abbrev pub of_two : {A : Type 0} → (List ℕ → List ℕ → A) → List (List ℕ) → Option A
of_two make [] = None
of_two make (first ∷ []) = None
of_two make (first ∷ second ∷ []) = Some (make first second)
of_two make (first ∷ second ∷ third ∷ more) = None

abbrev pub of_three : {A : Type 0} → (List ℕ → List ℕ → List ℕ → A) → List (List ℕ) → Option A
of_three make [] = None
of_three make (first ∷ []) = None
of_three make (first ∷ second ∷ []) = None
of_three make (first ∷ second ∷ third ∷ []) = Some (make first second third)
of_three make (first ∷ second ∷ third ∷ fourth ∷ more) = None

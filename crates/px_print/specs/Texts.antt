-- Texts one behind another.
use Rattle.std.specs.Prelude.{ℕ, List, ◌++◌}

-- one text and then another, as the grammar has one form and then another
infixr 5 ◌then◌
abbrev pub ◌then◌ : List ℕ → List ℕ → List ℕ
first then second = first ++ second

-- What is made of one operand.
use Rattle.std.proofs.Common.{◌≡◌, List, ℕ, [], ◌∷◌, Option, Some, None, refl}
use Rattle.std.specs.Option.{option_map, option_and_then}
use Rattle.px_words.specs.Operands.{of_one}
use Rattle.px_words.specs.Words.{Command}

-- first the operand alone, then the command
pub made_later : (made : List ℕ → Command) (o : Option (List (List ℕ)))
    → option_and_then (of_one made) o ≡ option_map made (option_and_then (of_one (λ word. word)) o)
made_later made None = refl
made_later made (Some []) = refl
made_later made (Some (word ∷ [])) = refl
made_later made (Some (word ∷ second ∷ more)) = refl

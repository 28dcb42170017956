-- Words, of which some are keywords, some the names of types that are left out, and the others identifiers.
use Rattle.std.specs.Prelude.{◌≡◌, ℕ, Bool, true, false, ◌||◌, List, codes}
use Rattle.std.specs.Str.{bytes_eq}
use Rattle.px_value.specs.Name.{is_identifier, continues_identifier}
use Rattle.px_lex.specs.Gap.{begins}

-- a letter or _ and then letters, digits and _, as long as it can be before the rest
pub record IsWord (spelling rest : List ℕ) : Type 0 where
  pub word : is_identifier spelling ≡ true
  pub longest : begins continues_identifier rest ≡ false

-- the types that are left out, all of real numbers or times
abbrev pub is_real_type : List ℕ → Bool
is_real_type word =
    bytes_eq word (codes "Real") || bytes_eq word (codes "Date") || bytes_eq word (codes "Duration")

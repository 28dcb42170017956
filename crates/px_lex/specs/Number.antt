-- Numbers: decimal digits, or 0x and hexadecimal digits.
use Rattle.std.specs.Prelude.{◌≡◌, ℕ, Bool, true, false, ◌&&◌, ◌==◌, nat_lt, List, [], ◌∷◌, length, drop, Option, Some, None, if◌then◌else◌}
use Rattle.std.specs.Char.{digit_value}
use Rattle.std.specs.List.{list_all}
use Rattle.std.specs.Str.Parse.{digits_value}
use Rattle.px_value.specs.Name.{is_digit, continues_identifier}
use Rattle.px_lex.specs.Gap.{begins}

-- a digit and all letters, digits and _ that directly follow it
pub record IsNumber (spelling rest : List ℕ) : Type 0 where
  pub first : begins is_digit spelling ≡ true
  pub going_on : list_all continues_identifier spelling ≡ true
  pub longest : begins continues_identifier rest ≡ false

-- there are digits, and all are of the base
abbrev pub is_numeral : ℕ → List ℕ → Bool
is_numeral base digits =
    nat_lt 0 (length digits) && list_all (λ c. nat_lt (digit_value c) base) digits

-- the number that digits write in a base
abbrev pub numeral : ℕ → List ℕ → Option ℕ
numeral base digits =
    if is_numeral base digits then Some (digits_value base digits) else None

-- the number that a spelling writes: hexadecimal behind 0x
abbrev pub number_of : List ℕ → Option ℕ
number_of [] = None
number_of (a ∷ []) = numeral 10 (a ∷ [])
number_of (a ∷ b ∷ digits) =
    if (a == 48) && (b == 120) then numeral 16 digits else numeral 10 (a ∷ b ∷ digits)

-- decimal digits that a . and a digit follow begin a real number
abbrev pub is_fraction : List ℕ → List ℕ → Bool
is_fraction spelling rest =
    list_all is_digit spelling && begins (λ c. c == 46) rest && begins is_digit (drop 1 rest)

-- Strings.
use Rattle.std.specs.Prelude.{ℕ, Bool, ◌||◌, ◌==◌, List, [], ◌∷◌, Option, Some, None, if◌then◌else◌}
use Rattle.px_value.specs.Text.{unescaped}

-- a double quote, a backslash, a raw line end
abbrev pub is_quote : ℕ → Bool
is_quote c = c == 34

abbrev pub is_backslash : ℕ → Bool
is_backslash c = c == 92

abbrev pub is_line_end : ℕ → Bool
is_line_end c = (c == 10) || (c == 13)

-- a byte before what is read of a string
abbrev pub with_byte : Option ℕ → Option (List ℕ × List ℕ) → Option (List ℕ × List ℕ)
with_byte None read = None
with_byte (Some byte) None = None
with_byte (Some byte) (Some read) = Some (byte ∷ read.0, read.1)

-- the content of a string from here to its closing quote, and the text behind that quote; none where it isn't closed or
-- holds another escape or a raw line end. So from behind a backslash.
abbrev mutual
  pub string_from : List ℕ → Option (List ℕ × List ℕ)
  string_from [] = None
  string_from (c ∷ cs) =
      if is_quote c then Some ([], cs)
      else if is_backslash c then escape_from cs
      else if is_line_end c then None
      else with_byte (Some c) (string_from cs)

  pub escape_from : List ℕ → Option (List ℕ × List ℕ)
  escape_from [] = None
  escape_from (c ∷ cs) = with_byte (unescaped c) (string_from cs)

-- the content of the string at the front of a text, and the text behind it
abbrev pub read_string : List ℕ → Option (List ℕ × List ℕ)
read_string [] = None
read_string (c ∷ cs) = if is_quote c then string_from cs else None

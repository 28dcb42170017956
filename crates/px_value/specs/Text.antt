-- What a text value holds, and how it is spelled between quotes; a number between brackets.
use Rattle.std.specs.Prelude.{ℕ, Bool, nat_le, nat_eq, List, [], ◌∷◌, ◌++◌, length, map, Option, Some, None, codes, decimal}
use Rattle.std.specs.List.{flat_map}
use Rattle.std.specs.Map.{lookup}

-- a text value has at most 1,024 bytes
abbrev pub is_short_text : List ℕ → Bool
is_short_text bytes = nat_le (length bytes) 1024

-- THE ESCAPES: a byte, and the letter that stands for it behind a backslash: the quote, the backslash, the line feed n and
-- the tab t
abbrev pub escapes : List (ℕ × ℕ)
escapes = (34, 34) ∷ (92, 92) ∷ (10, 110) ∷ (9, 116) ∷ []

-- the byte that a letter behind a backslash stands for
abbrev pub unescaped : ℕ → Option ℕ
unescaped letter = lookup (nat_eq letter) (map (λ row. (row.1, row.0)) escapes)

-- the letter that stands for a byte behind a backslash, where the byte has one
abbrev pub escape_letter : ℕ → Option ℕ
escape_letter byte = lookup (nat_eq byte) escapes

-- how a byte is spelled between quotes: behind a backslash its letter, where it has one; else by itself
abbrev pub escaped_as : ℕ → Option ℕ → List ℕ
escaped_as byte None = byte ∷ []
escaped_as byte (Some letter) = codes "\\" ++ (letter ∷ [])

abbrev pub escaped : ℕ → List ℕ
escaped byte = escaped_as byte (escape_letter byte)

-- the spelling of a string: its content between quotes
abbrev pub quoted : List ℕ → List ℕ
quoted content = codes "\"" ++ (flat_map escaped content ++ codes "\"")

-- a number between brackets, where there is one: the size of an array, or the index of an element
abbrev pub bracketed : Option ℕ → List ℕ
bracketed None = []
bracketed (Some number) = codes "[" ++ (decimal number ++ codes "]")

-- Lines, and parts of lines.
use Rattle.std.specs.Prelude.{ℕ, ◌-◌, Bool, true, false, ◌||◌, ◌==◌, List, [], ◌∷◌, length, take, drop, Option}
use Rattle.std.specs.List.{prefix_len, suffix_len, position_or_len, slice_split, before_first}
use Rattle.std.specs.Option.{option_map_or}
use Rattle.std.specs.Str.Lines.{strip_carriage_return}

-- a blank or a tab
abbrev pub is_blank : ℕ → Bool
is_blank c = (c == 32) || (c == 9)

-- the lines of a text, which line feeds part
abbrev pub lines_of : List ℕ → List (List ℕ)
lines_of bytes = slice_split (λ c. c == 10) bytes

-- the lines of what is left of a text, if anything is
abbrev pub lines_left : Option (List ℕ) → List (List ℕ)
lines_left text = option_map_or lines_of text []

-- a text without the blanks at its front, and without those at its end
abbrev pub trim_start : List ℕ → List ℕ
trim_start text = drop (prefix_len is_blank text) text

abbrev pub trim_end : List ℕ → List ℕ
trim_end text = take (length text - suffix_len is_blank text) text

abbrev pub trim : List ℕ → List ℕ
trim text = trim_end (trim_start text)

-- a line without the one carriage return at its end, and then without the blanks at both ends
abbrev pub content : List ℕ → List ℕ
content line = trim (strip_carriage_return line)

-- the first word of a text, and what stands behind it, from the next word on
abbrev pub first_word : List ℕ → List ℕ
first_word text = before_first is_blank text

abbrev pub behind_word : List ℕ → List ℕ
behind_word text = trim_start (drop (position_or_len is_blank text) text)

abbrev pub is_nothing : List ℕ → Bool
is_nothing [] = true
is_nothing (c ∷ cs) = false

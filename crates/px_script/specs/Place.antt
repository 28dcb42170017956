-- The places of VALUEs in a line: a place goes up to the next sign outside quotes, or to the end.
use Rattle.std.specs.Prelude.{ℕ, ◌+◌, Bool, false, ◌||◌, ◌==◌, List, [], ◌∷◌, take, drop, Option, Some, None, if◌then◌else◌}
use Rattle.px_lex.specs.String.{is_quote, is_backslash}
use Rattle.px_script.specs.Text.{trim}
use Rattle.px_script.specs.declared.place.Quoting.{Quoting}
use Rattle.px_script.specs.declared.place.Quoting.TheVariants.{Outside, Inside, Escaped}

-- = ( , )
abbrev pub is_sign : ℕ → Bool
is_sign c = (c == 61) || (c == 40) || (c == 44) || (c == 41)

-- whether a byte ends a place: a sign outside quotes does
abbrev pub ends_place : Quoting → ℕ → Bool
ends_place Outside c = is_sign c
ends_place Inside c = false
ends_place Escaped c = false

-- how the byte behind this one stands: a quote opens or closes, unless a backslash within quotes escapes it
abbrev pub behind_byte : Quoting → ℕ → Quoting
behind_byte Outside c = if is_quote c then Inside else Outside
behind_byte Inside c = if is_quote c then Outside else if is_backslash c then Escaped else Inside
behind_byte Escaped c = Inside

-- how many bytes stand before the one that ends the place, or are left
abbrev pub place_length : Quoting → List ℕ → ℕ
place_length quoting [] = 0
place_length quoting (c ∷ cs) =
    if ends_place quoting c then 0 else 1 + place_length (behind_byte quoting c) cs

-- what stands in the place at the front of a text, and the text from the sign on that ends it
abbrev pub in_place : List ℕ → List ℕ
in_place text = trim (take (place_length Outside text) text)

abbrev pub behind_place : List ℕ → List ℕ
behind_place text = drop (place_length Outside text) text

-- what is behind a sign, where the text begins with it
abbrev pub behind_sign : ℕ → List ℕ → Option (List ℕ)
behind_sign sign [] = None
behind_sign sign (c ∷ cs) = if c == sign then Some cs else None

-- The values that VALUEs spell.
use Rattle.std.specs.Prelude.{ℕ, Bool, true, false, ◌==◌, List, [], ◌∷◌, Option, Some, None, codes, if◌then◌else◌}
use Rattle.std.specs.Option.{option_or}
use Rattle.std.specs.Str.Parse.{signed_digits_value}
use Rattle.px_value.specs.Name.{is_digits}
use Rattle.px_value.specs.declared.value.Value.{Value}
use Rattle.px_value.specs.declared.value.Value.TheVariants as values
use Rattle.px_lex.specs.String.{read_string}
use Rattle.px_lex.specs.Table.{row_of}
use Rattle.px_event.specs.Values.{is_plain}

-- the value, where it may be told to a plan: an Integer of 32 bits, a Text of at most 1,024 bytes
abbrev pub plain : Value → Option Value
plain value = if is_plain value then Some value else None

abbrev pub truths : List (List ℕ × Value)
truths = (codes "true", values.Boolean true) ∷ (codes "false", values.Boolean false) ∷ []

-- an optional - and then 1 to 10 digits
abbrev pub is_number : List ℕ → Bool
is_number [] = false
is_number (c ∷ cs) = if c == 45 then is_digits 10 cs else is_digits 10 (c ∷ cs)

abbrev pub integer_of : List ℕ → Option Value
integer_of spelling = if is_number spelling then plain (values.Integer (signed_digits_value 10 spelling)) else None

-- a string with nothing behind it
abbrev pub all_of : Option (List ℕ × List ℕ) → Option Value
all_of None = None
all_of (Some (content, [])) = plain (values.Text content)
all_of (Some (content, c ∷ cs)) = None

abbrev pub text_of : List ℕ → Option Value
text_of spelling = all_of (read_string spelling)

-- the value of an argument; of what is reported or returned, which may be UNKNOWN too
abbrev pub argument_of : List ℕ → Option Value
argument_of spelling = option_or (row_of truths spelling) (option_or (integer_of spelling) (text_of spelling))

abbrev pub unknown : List (List ℕ × Value)
unknown = (codes "UNKNOWN", values.Unknown) ∷ []

abbrev pub value_of : List ℕ → Option Value
value_of spelling = option_or (row_of unknown spelling) (argument_of spelling)

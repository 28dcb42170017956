-- The option `--events`: the limit of a history's events.
use Rattle.std.specs.Prelude.{◌≤◌, ℕ, Bool, ◌&&◌, ◌==◌, nat_le, List, [], ◌∷◌, ◌++◌, Option, Some, None, codes, if◌then◌else◌}
use Rattle.std.specs.Option.{option_map, option_and_then}
use Rattle.std.specs.Str.Parse.{digits_value}
use Rattle.px_value.specs.Name.{is_digits}
use Rattle.px_core.specs.Plan.{is_same}
use Rattle.px_words.specs.Operands.{is_option, operands}

-- the greatest limit, which also stands where the option does not
abbrev pub event_limit : ℕ
event_limit = 100000

abbrev pub is_limit : ℕ → Bool
is_limit count = nat_le 1 count && nat_le count event_limit

-- from 1 to 100,000
abbrev pub IsLimit : ℕ → Type 0
IsLimit count = (1 ≤ count) × (count ≤ event_limit)

-- the number from 1 to 100,000 that 1 to 6 digits spell
abbrev pub count_of : List ℕ → Option ℕ
count_of digits =
    if is_digits 6 digits && is_limit (digits_value 10 digits) then Some (digits_value 10 digits) else None

-- what stands behind a text at the front of a word
abbrev pub behind_text : List ℕ → List ℕ → Option (List ℕ)
behind_text [] word = Some word
behind_text (t ∷ ts) [] = None
behind_text (t ∷ ts) (c ∷ cs) = if t == c then behind_text ts cs else None

-- operands, and the limit of a history's events
pub record Limited : Type 0 where
  pub operands : List (List ℕ)
  pub limit : ℕ

abbrev pub with_limit : ℕ → List (List ℕ) → Limited
with_limit limit words = record { operands = words; limit = limit }

-- with one operand more before them; with several
abbrev pub with_operand : List ℕ → Limited → Limited
with_operand word read = with_limit read.limit (word ∷ read.operands)

abbrev pub with_front : List (List ℕ) → Limited → Limited
with_front words read = with_limit read.limit (words ++ read.operands)

-- The operands behind the option, with its number. There are none where it has no number, or the option stands again.
abbrev pub limited_by : Option ℕ → List (List ℕ) → Option Limited
limited_by None words = None
limited_by (Some limit) words = option_map (with_limit limit) (operands words)

-- the same, where the number is the next word
abbrev pub limited_by_next : List (List ℕ) → Option Limited
limited_by_next [] = None
limited_by_next (number ∷ words) = limited_by (count_of number) words

-- what stands behind a word that looks like an option: `--events N`, `--events=N`, or none that there is
abbrev pub behind_option : List ℕ → List (List ℕ) → Option Limited
behind_option word words =
    if is_same word (codes "--events") then limited_by_next words
    else limited_by (option_and_then count_of (behind_text (codes "--events=") word)) words

-- The operands and the limit: each word up to `--`, every word after it, and before it the option at most once.
abbrev pub limited : List (List ℕ) → Option Limited
limited [] = Some (with_limit event_limit [])
limited (word ∷ words) =
    if is_same word (codes "--") then Some (with_limit event_limit words)
    else if is_option word then behind_option word words
    else option_map (with_operand word) (limited words)

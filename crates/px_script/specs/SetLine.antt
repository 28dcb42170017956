-- `set NAME = VALUE` and `set NAME(VALUE, ..) = VALUE`.
use Rattle.std.specs.Prelude.{ℕ, zero, suc, ◌==◌, List, [], ◌∷◌, map, Option, Some, None, if◌then◌else◌}
use Rattle.std.specs.Option.{option_map, option_and_then, option_or}
use Rattle.px_value.specs.declared.value.Value.{Value}
use Rattle.px_event.specs.Fit.{is_report_name}
use Rattle.px_event.specs.declared.event.Event.TheVariants as events
use Rattle.px_script.specs.Place.{in_place, behind_place, behind_sign}
use Rattle.px_script.specs.Text.{is_nothing}
use Rattle.px_script.specs.Value.{argument_of, value_of}
use Rattle.px_script.specs.declared.fault.FaultKind.TheVariants.{BadValue}
use Rattle.px_script.specs.declared.parsed_line.ParsedLine.{ParsedLine}
use Rattle.px_script.specs.declared.parsed_line.ParsedLine.TheVariants.{Posts, Faulty}

-- what stands in the places of a set line
pub record Setting : Type 0 where
  pub name : List ℕ
  pub args : List (List ℕ)
  pub value : List ℕ

-- what stands in a place, where that goes up to the end
abbrev pub last_place : List ℕ → Option (List ℕ)
last_place text = if is_nothing (behind_place text) then Some (in_place text) else None

-- `= VALUE` and then the end
abbrev pub told_in : List ℕ → Option (List ℕ)
told_in text = option_and_then last_place (behind_sign 61 text)

-- the arguments and what is behind their parenthesis: these that follow, with one before them
abbrev pub with_argument : List ℕ → List (List ℕ) × List ℕ → List (List ℕ) × List ℕ
with_argument arg more = (arg ∷ more.0, more.1)

-- an argument before a comma and more, or before the closing parenthesis
abbrev pub arguments_from : List ℕ → (List ℕ → Option (List (List ℕ) × List ℕ)) → List ℕ → Option (List (List ℕ) × List ℕ)
arguments_from arg more [] = None
arguments_from arg more (c ∷ cs) =
    if c == 44 then option_map (with_argument arg) (more cs) else if c == 41 then Some (arg ∷ [], cs) else None

-- `VALUE, ..)` of at least one VALUE and at most so many, and what is behind it
abbrev pub arguments_in : ℕ → List ℕ → Option (List (List ℕ) × List ℕ)
arguments_in zero text = None
arguments_in (suc most) text = arguments_from (in_place text) (arguments_in most) (behind_place text)

-- `NAME = VALUE`
abbrev pub plain_setting : List ℕ → Option Setting
plain_setting text =
    option_map (λ value. record { name = in_place text; args = []; value = value }) (told_in (behind_place text))

-- `NAME(VALUE, ..) = VALUE`, of at most 8 arguments
abbrev pub setting_with : List ℕ → List (List ℕ) × List ℕ → Option Setting
setting_with name (args, behind) =
    if is_nothing (in_place behind)
    then option_map (λ value. record { name = name; args = args; value = value }) (told_in (behind_place behind))
    else None

abbrev pub setting_with_arguments : List ℕ → Option Setting
setting_with_arguments text =
    option_and_then (setting_with (in_place text)) (option_and_then (arguments_in 8) (behind_sign 40 (behind_place text)))

abbrev pub setting_of : List ℕ → Option Setting
setting_of text = option_or (plain_setting text) (setting_with_arguments text)

-- all values, where each is one
abbrev pub all_values : List (Option Value) → Option (List Value)
all_values [] = Some []
all_values (None ∷ more) = None
all_values (Some value ∷ more) = option_map (λ values. value ∷ values) (all_values more)

-- the report of a name; where a VALUE is none, the line is at fault
abbrev pub report : List ℕ → Option (List Value) → Option Value → ParsedLine
report name None value = Faulty BadValue
report name (Some args) None = Faulty BadValue
report name (Some args) (Some value) = Posts (events.Report name args value)

-- what a setting says; none where its name is no identifier, or one of over 64 bytes
abbrev pub setting_says : Setting → Option ParsedLine
setting_says setting =
    if is_report_name setting.name
    then Some (report setting.name (all_values (map argument_of setting.args)) (value_of setting.value))
    else None

abbrev pub set_line : List ℕ → Option ParsedLine
set_line text = option_and_then setting_says (setting_of text)

-- What the words behind a command's name are to the reader of command lines: a command with arguments, and what it finds.
use Rattle.std.specs.Prelude.{ℕ, true, List, [], Option, Some, None, codes, if◌then◌else◌}
use Rattle.std.specs.Prelude.{unwrap_or}
use Rattle.std.specs.Option.{option_map, option_map_or}
use Rattle.clap.specs.Words.{App, Row, Rule, Text, all_of, first_of, fault_of, matches_of, new_app, new_rule, with_rule}
use Rattle.clap.specs.Walk.{is_empty}
use Rattle.clap.specs.Simple.{on_top}
use Rattle.clap.specs.declared.builder.ArgAction.TheVariants.{Append}
use Rattle.px_words.specs.Limited.{Limited, event_limit, count_of, with_limit}

-- the argument of the operands, each a use of its own; and the option
abbrev pub operands_rule : Rule
operands_rule = record (new_rule (codes "operands")) { action = Some Append }

abbrev pub events_rule : Rule
events_rule = record (new_rule (codes "events")) { long = Some (codes "events") }

-- a command that has the operands alone; and the option too
abbrev pub plain_app : App
plain_app = with_rule (on_top (λ top. record top { no_binary_name = true; disable_help_flag = true }) (new_app (codes "line"))) operands_rule

abbrev pub limited_app : App
limited_app = with_rule plain_app events_rule

-- what a command finds in words, where it takes them
abbrev pub rows_read : App → List Text → Option (List Row)
rows_read app words = if is_empty (fault_of app words) then Some (matches_of app words) else None

abbrev pub operands_in : List Row → List Text
operands_in rows = unwrap_or (all_of (codes "operands") rows) []

-- the limit: that of the option, or where it doesn't stand the greatest
abbrev pub limit_in : Option Text → Option ℕ
limit_in number = option_map_or count_of number (Some event_limit)

abbrev pub limit_of : List Row → Option ℕ
limit_of rows = limit_in (first_of (codes "events") rows)

abbrev pub line_in : List Row → Option Limited
line_in rows = option_map (λ limit. with_limit limit (operands_in rows)) (limit_of rows)

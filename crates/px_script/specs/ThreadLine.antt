-- The line that names a thread, and may give it a name: `thread N` and `thread N NAME`. It is looked at byte by byte: the
-- number counts before the name does, which may be any bytes.
use Rattle.std.specs.Prelude.{ℕ, Bool, not, ◌&&◌, nat_le, List, length, Option, Some, None, if◌then◌else◌}
use Rattle.std.specs.List.{list_all}
use Rattle.std.specs.Str.Parse.{digits_value}
use Rattle.px_value.specs.Name.{is_digit}
use Rattle.px_event.specs.Fit.{is_report_name}
pub use Rattle.px_event.specs.Fit.{is_thread}
use Rattle.px_script.specs.Text.{first_word, behind_word, is_nothing}
use Rattle.px_script.specs.declared.fault.FaultKind.TheVariants.{BadThread}
use Rattle.px_script.specs.declared.parsed_line.ParsedLine.{ParsedLine}
use Rattle.px_script.specs.declared.parsed_line.ParsedLine.TheVariants.{Thread, Faulty}

-- one digit or more
abbrev pub are_digits : List ℕ → Bool
are_digits text = nat_le 1 (length text) && list_all is_digit text

-- the lines behind belong to this thread, and the word is its name, if there is one; where there is no such thread, the line
-- is at fault; none where the word is no identifier, or one of over 64 bytes
abbrev pub thread_named : ℕ → List ℕ → Option ParsedLine
thread_named number word =
    if not (is_thread number) then Some (Faulty BadThread)
    else if is_nothing word then Some (Thread number None)
    else if is_report_name word then Some (Thread number (Some word))
    else None

-- `N` or `N NAME`
abbrev pub thread_line : List ℕ → Option ParsedLine
thread_line text =
    if are_digits (first_word text) && is_nothing (behind_word (behind_word text))
    then thread_named (digits_value 10 (first_word text)) (first_word (behind_word text))
    else None

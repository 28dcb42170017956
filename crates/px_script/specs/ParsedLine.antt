-- What a line of a script says. Apart from strings every shape of a line is ASCII.
use Rattle.std.specs.Prelude.{ℕ, Bool, true, ◌==◌, List, [], ◌∷◌, Option, None, codes, if◌then◌else◌}
use Rattle.std.specs.Option.{option_and_then, unwrap_or}
use Rattle.std.specs.Str.{is_utf8}
use Rattle.px_lex.specs.Table.{row_of}
use Rattle.px_core.specs.Plan.{Site, is_same}
use Rattle.px_script.specs.NodeLine.{handle_line, return_line, abort_line, ack_line}
use Rattle.px_script.specs.SetLine.{set_line}
use Rattle.px_script.specs.Text.{content, first_word, behind_word}
use Rattle.px_script.specs.ThreadLine.{thread_line}
use Rattle.px_script.specs.WaitLine.{wait_line}
use Rattle.px_script.specs.declared.fault.FaultKind.TheVariants.{BadLine}
use Rattle.px_script.specs.declared.parsed_line.ParsedLine.{ParsedLine}
use Rattle.px_script.specs.declared.parsed_line.ParsedLine.TheVariants.{Nothing, Faulty}

-- THE LINES, but for those that name a thread: the word with which one begins, and what one says by the text behind the word;
-- none where that hasn't the shape of such a line
abbrev pub lines : List Site → List (List ℕ × (List ℕ → Option ParsedLine))
lines plan =
    (codes "set", set_line)
    ∷ (codes "handle", handle_line plan)
    ∷ (codes "return", return_line plan)
    ∷ (codes "abort", abort_line plan)
    ∷ (codes "ack", ack_line plan)
    ∷ (codes "wait", wait_line plan)
    ∷ []

-- what a text says, in the words of its row
abbrev pub said_in_text : List Site → List ℕ → Option ParsedLine
said_in_text plan text = option_and_then (λ line. line (behind_word text)) (row_of (lines plan) (first_word text))

-- what a line says: one that names a thread byte by byte, and another as text
abbrev pub said : List Site → List ℕ → Option ParsedLine
said plan line =
    if is_same (codes "thread") (first_word line) then thread_line (behind_word line)
    else if is_utf8 line then said_in_text plan line
    else None

-- a line that is empty or begins with # says nothing
abbrev pub is_silent : List ℕ → Bool
is_silent [] = true
is_silent (c ∷ cs) = c == 35

-- what a line says without the blanks at its ends; one that has no shape is at fault
abbrev pub of_content : List Site → List ℕ → ParsedLine
of_content plan text = if is_silent text then Nothing else unwrap_or (said plan text) (Faulty BadLine)

abbrev pub parsed_line : List Site → List ℕ → ParsedLine
parsed_line plan line = of_content plan (content line)

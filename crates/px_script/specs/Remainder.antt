-- What is left of a script after a history.
use Rattle.std.specs.Prelude.{◌≡◌, ℕ, ◌<◌, max, Bool, ◌==◌, nat_lt, List, length, map, filter, fold, All}
use Rattle.px_event.specs.declared.entry.Entry.{Entry}
use Rattle.px_script.specs.declared.line.Line.{Line}
use Rattle.px_script.specs.declared.todo.Todo.{Todo}

-- the entries of a thread
abbrev pub entries_of : ℕ → List Entry → List Entry
entries_of thread history = filter (λ entry. entry.thread == thread) history

-- the greatest line of a thread in the history; 0 where the history has no entry of the thread
abbrev pub last_line : ℕ → List Entry → ℕ
last_line thread history = fold max 0 (map (λ entry. entry.line) (entries_of thread history))

-- the lines with numbers above this one
abbrev pub lines_above : ℕ → List Line → List Line
lines_above number lines = filter (λ line. nat_lt number line.number) lines

-- what is left of a thread: its lines above its greatest in the history
abbrev pub left_of : List Entry → Todo → Todo
left_of history todo = record { thread = todo.thread; lines = lines_above (last_line todo.thread history) todo.lines }

abbrev pub has_a_line : Todo → Bool
has_a_line todo = nat_lt 0 (length todo.lines)

-- what is left of each thread; a thread with no line left is dropped
abbrev pub rest : List Todo → List Entry → List Todo
rest threads history = filter has_a_line (map (left_of history) threads)

-- each line is above all lines that the history has of its thread
abbrev pub IsAhead : List Entry → Todo → Type 0
IsAhead history todo = All (λ line. All (λ entry. entry.thread ≡ todo.thread → entry.line < line.number) history) todo.lines

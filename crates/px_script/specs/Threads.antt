-- The lines of all threads, as they are kept while a script is read: those of thread 1 first.
use Rattle.std.specs.Prelude.{ℕ, ◌+◌, ◌-◌, List, [], ◌∷◌, ◌++◌, slice_index_or, slice_set}
use Rattle.px_script.specs.declared.line.Line.{Line}
use Rattle.px_script.specs.declared.todo.Todo.{Todo}

-- the lines of a thread
abbrev pub lines_in : List (List Line) → ℕ → List Line
lines_in kept thread = slice_index_or kept (thread - 1) []

-- the lines with one more of a thread
abbrev pub with_line : List (List Line) → ℕ → Line → List (List Line)
with_line kept thread line = slice_set kept (thread - 1) (lines_in kept thread ++ line ∷ [])

-- the threads from this one on, each with its lines
abbrev pub todos_from : ℕ → List (List Line) → List Todo
todos_from thread [] = []
todos_from thread (lines ∷ more) = record { thread = thread; lines = lines } ∷ todos_from (thread + 1) more

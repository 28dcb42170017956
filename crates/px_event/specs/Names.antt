-- The names of threads.
use Rattle.std.specs.Prelude.{ℕ, nat_eq, Bool, true, ◌&&◌, ◌==◌, if◌then◌else◌, is_none, Option, Some, None, List, [], ◌∷◌}
use Rattle.std.specs.Cmp.Lexicographic.{pointwise}
use Rattle.px_event.specs.Fit.{is_report_name}
use Rattle.px_event.specs.declared.names.ThreadName.{ThreadName}

-- the name of a thread: that of its row
abbrev pub name_of : ℕ → List ThreadName → Option (List ℕ)
name_of thread [] = None
name_of thread (row ∷ later) = if row.thread == thread then Some row.name else name_of thread later

-- no thread is named twice, and each name is an identifier of at most 64 bytes
abbrev pub are_names : List ThreadName → Bool
are_names [] = true
are_names (row ∷ later) = is_report_name row.name && is_none (name_of row.thread later) && are_names later

-- the same thread with the same name
abbrev pub is_same_row : ThreadName → ThreadName → Bool
is_same_row one other = (one.thread == other.thread) && pointwise nat_eq one.name other.name

-- The lines of the names: the interface that each event of a journal came through.
use Rattle.std.specs.Prelude.{ℕ, ◌+◌, List, [], ◌∷◌, ◌++◌, Option, unwrap_or, codes, decimal}
use Rattle.px_event.specs.declared.named.NamedEntry.{NamedEntry}
use Rattle.px_sem.specs.Text.{line, source_text}

-- a name, or `-` where there is none
abbrev pub name_text : Option (List ℕ) → List ℕ
name_text name = unwrap_or name (codes "-")

-- the line of an event at its position in the history, from 1
abbrev pub name_line : ℕ → NamedEntry → List ℕ
name_line position named =
    line (codes "event " ++ decimal position ++ codes ": " ++ source_text named.entry.thread named.entry.line ++ codes " "
    ++ name_text named.name)

-- those of all events from a position on
abbrev pub name_lines : ℕ → List NamedEntry → List ℕ
name_lines position [] = []
name_lines position (named ∷ later) = name_line position named ++ name_lines (position + 1) later

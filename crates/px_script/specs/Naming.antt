-- The names of threads, as they are kept while a script is read.
use Rattle.std.specs.Prelude.{ℕ, Bool, false, not, is_none, List, [], ◌∷◌, ◌++◌, Option, Some, None, if◌then◌else◌}
use Rattle.px_core.specs.Plan.{is_same}
use Rattle.px_event.specs.Names.{name_of}
use Rattle.px_event.specs.declared.names.ThreadName.{ThreadName}

-- whether the name that a line gives, if it gives one, is another than the one that is kept, if there is one
abbrev pub is_another : Option (List ℕ) → Option (List ℕ) → Bool
is_another None kept = false
is_another (Some name) None = false
is_another (Some name) (Some kept) = not (is_same kept name)

-- the names with the one that a line gives a thread, if it gives one, where the thread had none
abbrev pub with_name : List ThreadName → ℕ → Option (List ℕ) → List ThreadName
with_name names thread None = names
with_name names thread (Some name) =
    if is_none (name_of thread names) then names ++ record { thread = thread; name = name } ∷ [] else names

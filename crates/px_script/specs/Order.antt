-- The posts of a script in the order of its lines.
use Rattle.std.specs.Prelude.{ℕ, List, Option, Some, None}
use Rattle.std.specs.List.{filter_map, flat_map}
use Rattle.std.specs.List.Sorted.{IsPermutation, IsNonDecreasingBy}
use Rattle.px_event.specs.Fit.{entry_of as posted_by}
use Rattle.px_event.specs.declared.entry.Entry.{Entry}
use Rattle.px_script.specs.declared.line.Line.{Line}
use Rattle.px_script.specs.declared.line.What.{What}
use Rattle.px_script.specs.declared.line.What.TheVariants as whats
use Rattle.px_script.specs.declared.todo.Todo.{Todo}

-- what a line posts on its thread; a wait line posts nothing
abbrev pub entry_of : ℕ → Line → Option Entry
entry_of thread line = entry_of_what line.what
  where
    entry_of_what : What → Option Entry
    entry_of_what (whats.Post event) = Some (posted_by thread line.number event)
    entry_of_what (whats.Wait cond) = None

-- what lines post on a thread, in order
abbrev pub posts_of : ℕ → List Line → List Entry
posts_of thread lines = filter_map (entry_of thread) lines

-- what a thread posts
abbrev pub thread_entries : Todo → List Entry
thread_entries todo = posts_of todo.thread todo.lines

-- what all threads post, one thread after another
abbrev pub all_entries : List Todo → List Entry
all_entries threads = flat_map thread_entries threads

-- the posts of all threads by rising line number
pub record InFileOrder (threads : List Todo) (entries : List Entry) : Type 0 where
  pub same : IsPermutation (all_entries threads) entries
  pub rising : IsNonDecreasingBy (λ entry. entry.line) entries

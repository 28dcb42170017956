-- What a thread posts is its own.
use Rattle.std.proofs.Common.{◌≡◌, ℕ, List, get_or, IfSome, refl}
use Rattle.std.specs.List.{All}
use Rattle.px_value.proofs.General.{all_given}
use Rattle.px_event.specs.declared.entry.Entry.{Entry}
use Rattle.px_script.specs.Order.{entry_of, posts_of}
use Rattle.px_script.specs.declared.line.Line.{Line}
use Rattle.px_script.specs.declared.line.What.{What}
use Rattle.px_script.specs.declared.line.What.TheVariants as whats
use Rattle.px_script.proofs.Walks.{line_at}

pub own_thread : (thread : ℕ) (lines : List Line) → All (λ entry. entry.thread ≡ thread) (posts_of thread lines)
own_thread thread lines =
    all_given (λ (entry : Entry). entry.thread ≡ thread) (entry_of thread) lines (λ k d within. own (get_or lines k d).number (get_or lines k d).what)
  where
    own : (number : ℕ) (what : What) → IfSome (entry_of thread (line_at number what)) (λ (entry : Entry). entry.thread ≡ thread)
    own number (whats.Post event) = refl
    own number (whats.Wait cond) = tt

-- The threads that kept lines make.
use Rattle.std.proofs.Common.{◌≡◌, ℕ, ◌+◌, List, [], ◌∷◌, ◌++◌, length, sym, ap, ◌∙◌, arith}
use Rattle.std.specs.List.{filter}
use Rattle.std.proofs.lemmas.List.Elements.{filter-append}
use Rattle.px_script.specs.Remainder.{has_a_line}
use Rattle.px_script.specs.Threads.{todos_from}
use Rattle.px_script.specs.declared.line.Line.{Line}
use Rattle.px_script.specs.declared.todo.Todo.{Todo}

todos_push : (first : ℕ) (kept : List (List Line)) (todo : Todo) → todo.thread ≡ first + length kept
    → todos_from first (kept ++ todo.lines ∷ []) ≡ todos_from first kept ++ todo ∷ []
todos_push first [] todo is =
    let there : first ≡ todo.thread = omega arith in
    ap (λ thread. record { thread = thread; lines = todo.lines } ∷ []) there
todos_push first (lines ∷ kept) todo is = ap (λ more. record { thread = first; lines = lines } ∷ more) (todos_push (first + 1) kept todo (omega arith))

-- one more thread
pub todos_more : (kept : List (List Line)) (threads : List Todo) (todo : Todo) → threads ≡ filter has_a_line (todos_from 1 kept) → todo.thread ≡ length kept + 1
    → threads ++ filter has_a_line (todo ∷ []) ≡ filter has_a_line (todos_from 1 (kept ++ todo.lines ∷ []))
todos_more kept threads todo is thread =
    ap (λ threads. threads ++ filter has_a_line (todo ∷ [])) is
    ∙ sym (ap (filter has_a_line) (todos_push 1 kept todo (omega arith)) ∙ filter-append has_a_line (todos_from 1 kept) (todo ∷ []))

-- Histories of a script's posts, each at most once, whatever stops there were.
use Rattle.std.specs.Prelude.{ℕ, List, map, All, IsTrue}
use Rattle.std.specs.List.{Contains}
use Rattle.px_event.specs.declared.entry.Entry.{Entry}
use Rattle.px_script.specs.Fit.{rise_above}
use Rattle.px_script.specs.Order.{all_entries}
use Rattle.px_script.specs.Remainder.{entries_of}
use Rattle.px_script.specs.declared.todo.Todo.{Todo}

-- THE HISTORY IS SOUND FOR THE SCRIPT: each entry is the post of its thread's line of this number, and the numbers of each
-- thread rise, so that no line stands in it twice.
pub record IsSoundFor (threads : List Todo) (history : List Entry) : Type 0 where
  pub posts : All (λ entry. Contains (all_entries threads) entry) history
  pub rises : (thread : ℕ) → IsTrue (rise_above 0 (map (λ entry. entry.line) (entries_of thread history)))

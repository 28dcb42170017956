-- Which of the nodes that want to start must stay for another writer of their variable: by number, and what that means
-- in a world.
use Rattle.std.specs.Prelude.{◌≡◌, ℕ, ◌<◌, Bool, false, ◌&&◌, ◌||◌, nat_eq, nat_lt, List, length, is_some, IsTrue, Option, Some, None}
use Rattle.std.specs.List.{list_any}
use Rattle.std.specs.Option.{option_map, option_map_or}
use Rattle.px_core.specs.Plan.{Site}
use Rattle.px_sem.specs.Conflicts as semantics
use Rattle.px_sem.specs.Conflicts.{would_start, holds_variable}
use Rattle.px_sem.specs.World.{World}
use Rattle.px_flat.specs.Numbered.{BodyNumbered, Nothing, Assign, Command, Update, numbered_body}
use Rattle.px_flat.specs.Row.{site_in}

-- the first cell of the variable that a body writes: a variable is told by it
abbrev pub written : BodyNumbered → Option ℕ
written Nothing = None
written (Assign target value) = Some target.place.first
written (Command args result) = option_map (λ target. target.place.first) result
written (Update values) = None

abbrev pub variable_of : List Site → ℕ → Option ℕ
variable_of plan node = written (numbered_body plan (site_in plan node).head.body)

-- a test of the variable that a node writes, if it writes one
abbrev pub of_variable : (ℕ → Bool) → Option ℕ → Bool
of_variable test variable = option_map_or test variable false

-- a node writes a variable, or an element of it
abbrev pub writes : List Site → ℕ → ℕ → Bool
writes plan variable node = of_variable (nat_eq variable) (variable_of plan node)

abbrev pub priority_of : List Site → ℕ → ℕ
priority_of plan node = (site_in plan node).head.priority

-- the lower priority number goes first, and of one number the earlier node
abbrev pub goes_before : List Site → ℕ → ℕ → Bool
goes_before plan a b =
    nat_lt (priority_of plan a) (priority_of plan b)
    || (nat_eq (priority_of plan a) (priority_of plan b) && nat_lt a b)

-- a node holds a variable, or wants it too and goes before
abbrev pub is_kept_from : List Site → List ℕ → List ℕ → ℕ → ℕ → Bool
is_kept_from plan wanting holding node variable =
    list_any (writes plan variable) holding
    || list_any (λ other. writes plan variable other && goes_before plan other node) wanting

-- a node that wants to start is kept from its variable
abbrev pub is_loser : List Site → List ℕ → List ℕ → ℕ → Bool
is_loser plan wanting holding node = of_variable (is_kept_from plan wanting holding node) (variable_of plan node)

-- ---- in a world

abbrev pub is_writer : List Site → ℕ → Bool
is_writer plan node = is_some (variable_of plan node)

-- what wants to start would; of the writers all that would want to, and just those hold their variable that do
pub record AreWriters (plan : List Site) (world : World) (wanting holding : List ℕ) : Type 0 where
  pub starts : (node : ℕ) → node < length plan → IsTrue (list_any (nat_eq node) wanting)
      → IsTrue (would_start plan world (site_in plan node))
  pub wants : (node : ℕ) → node < length plan → IsTrue (is_writer plan node)
      → IsTrue (would_start plan world (site_in plan node)) → IsTrue (list_any (nat_eq node) wanting)
  pub holds : (node : ℕ) → node < length plan → IsTrue (is_writer plan node)
      → list_any (nat_eq node) holding ≡ holds_variable world (site_in plan node)

-- a loser, as the semantics has it
abbrev pub is_loser_in : List Site → World → ℕ → Bool
is_loser_in plan world node = semantics.is_loser plan world (site_in plan node)

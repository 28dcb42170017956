-- STILL: a node that waits in no list stays by what is kept, or it waits for its variable and is marked.
use Rattle.std.specs.Prelude.{◌≡◌, ℕ, ◌<◌, Bool, true, false, ◌&&◌, length, slice_index_or, Option, None, if◌then◌else◌}
use Rattle.px_sem.specs.declared.guards.Arrival.{Arrival}
use Rattle.px_links.specs.Links.{is_absent}
use Rattle.px_assign.specs.Conflicts.{is_writer}
use Rattle.px_parts.specs.declared.parts.Parts.{Parts}
use Rattle.px_parts.specs.Parts.{plan_in}
use Rattle.px_micro.specs.Going.{is_start}
use Rattle.px_machine.specs.declared.kept.Kept.{Kept}
use Rattle.px_machine.specs.Kept.{arrival_of, own_seen}

-- the node is marked as one that would start
abbrev pub is_marked : Kept → ℕ → Bool
is_marked kept node = slice_index_or kept.claims.wanting node false

-- by what is kept it would start, and writes a variable
abbrev pub claims_now : Parts → Kept → ℕ → Bool
claims_now parts kept node =
    is_writer (plan_in parts) node && is_start (own_seen parts node).state (arrival_of parts kept node)

-- where it goes without asking for a variable, or none
abbrev pub free_arrival : Parts → Kept → ℕ → Option Arrival
free_arrival parts kept node = if claims_now parts kept node then None else arrival_of parts kept node

pub record IsStill (parts : Parts) (kept : Kept) (node : ℕ) : Type 0 where
  pub marked : is_marked kept node ≡ claims_now parts kept node
  pub stays : free_arrival parts kept node ≡ None

-- each node is, or waits in a list
abbrev pub AreStill : Parts → Kept → Type 0
AreStill parts kept = (node : ℕ) → node < length (plan_in parts) → is_absent kept.queue node ≡ true → IsStill parts kept node

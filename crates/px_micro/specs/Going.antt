-- The candidates that go, by number, with where they go.
use Rattle.std.specs.Prelude.{◌≡◌, ℕ, ◌<◌, Bool, false, ◌&&◌, List, length, map, filter, Option, Some, None, All, AllPairs, Contains, IsSome}
use Rattle.std.specs.List.{filter_map, range_with_len}
use Rattle.std.specs.Option.{option_map}
use Rattle.px_value.specs.declared.enums.NodeState.{NodeState}
use Rattle.px_core.specs.Plan.{Site}
use Rattle.px_sem.specs.declared.guards.Arrival.{Arrival}
use Rattle.px_sem.specs.Conflicts.{destination, transition}
use Rattle.px_sem.specs.Guards.{is_waiting, is_executing, is_active}
use Rattle.px_sem.specs.World.{World, state_at}
use Rattle.px_flat.specs.Row.{site_in}
use Rattle.px_micro.specs.declared.sight.Going.{Going}

abbrev pub with_node : ℕ → Option Arrival → Option Going
with_node node arrival = option_map (λ to. record { node = node; arrival = to }) arrival

-- those that have a destination
abbrev pub wanted : List Site → World → List ℕ → List Going
wanted plan world candidates =
    filter_map (λ node. with_node node (destination plan world (site_in plan node))) candidates

-- those of them that are no losers of a conflict
abbrev pub going : List Site → World → List ℕ → List Going
going plan world candidates =
    filter_map (λ node. with_node node (transition plan world (site_in plan node))) candidates

-- a row that leads from WAITING to EXECUTING
abbrev pub is_start : NodeState → Option Arrival → Bool
is_start state None = false
is_start state (Some arrival) = is_waiting state && is_executing arrival.to

-- those that would start, by number
abbrev pub wanting : List Site → World → List Going → List ℕ
wanting plan world wanted =
    map (λ one. one.node)
    (filter (λ one. is_waiting (state_at world (site_in plan one.node).path) && is_executing one.arrival.to) wanted)

-- the nodes at work, by number
abbrev pub holding : List Site → World → List ℕ
holding plan world = filter (λ node. is_active (state_at world (site_in plan node).path)) (range_with_len 0 (length plan))

-- these are all nodes that go, in preorder, with where they go
pub record AreAllGoing (plan : List Site) (world : World) (going : List Going) : Type 0 where
  pub rise : AllPairs (λ a b. a.node < b.node) going
  pub within : All (λ one. one.node < length plan) going
  pub each : All (λ one. transition plan world (site_in plan one.node) ≡ Some one.arrival) going
  pub all : (node : ℕ) → node < length plan → IsSome (transition plan world (site_in plan node))
      → Contains (map (λ one. one.node) going) node

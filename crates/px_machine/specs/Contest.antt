-- LOOKED: of each node it is known whether it goes, stays, or would start and wants its variable.
use Rattle.std.specs.Prelude.{◌≡◌, ◌≢◌, ℕ, ◌<◌, true, false, length, List, None, Some, All, AllPairs, IsSome}
use Rattle.px_core.specs.Plan.{Site}
use Rattle.px_sem.specs.Conflicts.{transition}
use Rattle.px_sem.specs.World.{World}
use Rattle.px_flat.specs.Row.{site_in}
use Rattle.px_links.specs.Links.{is_absent}
use Rattle.px_assign.specs.Conflicts.{is_loser_in}
use Rattle.px_parts.specs.declared.parts.Parts.{Parts}
use Rattle.px_parts.specs.Parts.{plan_in, world_in}
use Rattle.px_micro.specs.declared.sight.Going.{Going}
use Rattle.px_machine.specs.declared.kept.Kept.{Kept}
use Rattle.px_machine.specs.Queue.{IsGoer}
use Rattle.px_machine.specs.Still.{claims_now, free_arrival, is_marked}

-- all marks are exact, and these are all nodes that go without asking for a variable, each once
pub record HasLooked (parts : Parts) (kept : Kept) (going : List Going) : Type 0 where
  pub marked : (node : ℕ) → node < length (plan_in parts) → is_marked kept node ≡ claims_now parts kept node
  pub within : All (λ one. one.node < length (plan_in parts)) going
  pub once : AllPairs (λ a b. a.node ≢ b.node) going
  pub each : All (λ one. free_arrival parts kept one.node ≡ Some one.arrival) going
  pub all : (node : ℕ) → node < length (plan_in parts) → IsSome (free_arrival parts kept node) → IsGoer going node

-- SIMULATION: a node that is neither in the queue nor marked does not go, and a loser of a conflict is marked
pub record IsSimulation (parts : Parts) (kept : Kept) : Type 0 where
  pub outside : (node : ℕ) → node < length (plan_in parts) → is_absent kept.queue node ≡ true
      → is_marked kept node ≡ false → transition (plan_in parts) (world_in parts) (site_in (plan_in parts) node) ≡ None
  pub losers : (node : ℕ) → node < length (plan_in parts) → is_loser_in (plan_in parts) (world_in parts) node ≡ true
      → is_marked kept node ≡ true

-- these are all nodes that go, each once in whatever order, with where they go
pub record IsEachGoing (plan : List Site) (world : World) (going : List Going) : Type 0 where
  pub within : All (λ one. one.node < length plan) going
  pub once : AllPairs (λ a b. a.node ≢ b.node) going
  pub each : All (λ one. transition plan world (site_in plan one.node) ≡ Some one.arrival) going
  pub all : (node : ℕ) → node < length plan → IsSome (transition plan world (site_in plan node)) → IsGoer going node

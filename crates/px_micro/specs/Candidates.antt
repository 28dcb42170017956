-- The nodes that a step looks at.
use Rattle.std.specs.Prelude.{ℕ, ◌<◌, List, length, All, AllPairs, Contains, IsSome}
use Rattle.px_core.specs.Plan.{Site}
use Rattle.px_sem.specs.World.{World}
use Rattle.px_sem.specs.Conflicts.{destination}
use Rattle.px_flat.specs.Row.{site_in}

-- numbers of nodes, which rise; each node that has a destination is among them, the losers of conflicts too
pub record AreCandidates (plan : List Site) (world : World) (candidates : List ℕ) : Type 0 where
  pub rise : AllPairs (λ a b. a < b) candidates
  pub within : All (λ node. node < length plan) candidates
  pub all : (node : ℕ) → node < length plan → IsSome (destination plan world (site_in plan node))
      → Contains candidates node

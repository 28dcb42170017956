-- Between steps, and when it is chosen who goes.
use Rattle.std.specs.Prelude.{ℕ, ◌<◌, List, length}
use Rattle.px_micro.specs.declared.sight.Going.{Going}
use Rattle.px_micro.specs.Going.{AreAllGoing}
use Rattle.px_parts.specs.declared.parts.Parts.{Parts}
use Rattle.px_parts.specs.Parts.{AreStanding, plan_in, world_in}
use Rattle.px_machine.specs.declared.kept.Kept.{Kept}
use Rattle.px_machine.specs.Queue.{IsGoer, NobodyIsBehind}
use Rattle.px_machine.specs.Right.{IsRight}
use Rattle.px_machine.specs.Seen.{IsSeen}
use Rattle.px_machine.specs.Still.{IsStill}

-- READY: the parts stand for a world, and what is kept is right of what was last seen of it
pub record IsReady (parts : Parts) (kept : Kept) : Type 0 where
  pub stand : AreStanding parts
  pub seen : IsSeen parts kept.conditions
  pub right : IsRight parts kept

-- CHOSEN: these are all nodes that go, nobody is behind, and each other node is still
pub record HasChosen (parts : Parts) (kept : Kept) (going : List Going) : Type 0 where
  pub all : AreAllGoing (plan_in parts) (world_in parts) going
  pub nobody : NobodyIsBehind kept.queue
  pub others : (node : ℕ) → node < length (plan_in parts) → (IsGoer going node → ⊥) → IsStill parts kept node

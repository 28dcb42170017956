-- What parts go back to.
use Rattle.std.specs.Prelude.{[], IsNone, IsSome}
use Rattle.std.specs.Option.{unwrap_or}
use Rattle.px_sem.specs.Stepper.{Pending, State}
use Rattle.px_sem.specs.World.{World}
use Rattle.px_flat.specs.Parts.{IsParts, world_of}
use Rattle.px_parts.specs.declared.parts.Parts.{Parts}
use Rattle.px_parts.specs.Parts.{plan_in, world_in}

-- no mark stands
pub record AreUnmarked (parts : Parts) : Type 0 where
  pub cells : IsNone parts.cells.contents.marked
  pub reports : IsNone parts.reports.marked
  pub actions : IsNone parts.actions.contents.marked

-- the world at the mark
abbrev pub marked_world : Parts → World
marked_world parts =
    world_of (plan_in parts) (unwrap_or parts.cells.contents.marked []) (unwrap_or parts.reports.marked [])
    (unwrap_or parts.actions.contents.marked [])

-- the state of a stepper with these parts, where this is begun in the world at the mark
abbrev pub state_by : (World → Pending) → Parts → State
state_by begun parts = record { nodes = plan_in parts; world = world_in parts; pending = begun (marked_world parts) }

-- a mark stands, and what it keeps stands for a world of the plan
pub record AreMarked (parts : Parts) : Type 0 where
  pub cells : IsSome parts.cells.contents.marked
  pub reports : IsSome parts.reports.marked
  pub actions : IsSome parts.actions.contents.marked
  pub stand :
      IsParts (plan_in parts) (unwrap_or parts.cells.contents.marked []) (unwrap_or parts.actions.contents.marked [])

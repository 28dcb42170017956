-- The parts of what runs a plan, and the world that they stand for.
use Rattle.std.specs.Prelude.{◌≡◌, ℕ, List}
use Rattle.px_value.specs.declared.value.Value.{Value}
use Rattle.px_core.specs.Plan.{Site}
use Rattle.px_sem.specs.World.{World, NodeRecord}
use Rattle.px_flat.specs.Flat.{plan_of}
use Rattle.px_flat.specs.Numbered.{Numbered, numbered_value}
use Rattle.px_flat.specs.Parts.{IsParts, world_of, record_in}
use Rattle.px_parts.specs.declared.parts.Parts.{Parts}

abbrev pub plan_in : Parts → List Site
plan_in parts = plan_of parts.flat

abbrev pub world_in : Parts → World
world_in parts =
    world_of (plan_in parts) parts.cells.contents.values parts.reports.reports parts.actions.contents.values

-- the record of a node by its number
abbrev pub record_of : Parts → ℕ → NodeRecord
record_of parts node = record_in (plan_in parts) parts.cells.contents.values parts.actions.contents.values node

-- the value of a numbered expression
abbrev pub value_in : Parts → Numbered → Value
value_in parts expr = numbered_value (plan_in parts) parts.cells.contents.values parts.reports.reports expr

-- the parts stand for a world of their plan
abbrev pub AreStanding : Parts → Type 0
AreStanding parts = IsParts (plan_in parts) parts.cells.contents.values parts.actions.contents.values

-- the same plan, and the same marks to go back to
pub record AreOfOnePlan (old new : Parts) : Type 0 where
  pub plan : plan_in new ≡ plan_in old
  pub cells : new.cells.contents.marked ≡ old.cells.contents.marked
  pub reports : new.reports.marked ≡ old.reports.marked
  pub actions : new.actions.contents.marked ≡ old.actions.contents.marked

-- nothing of the world has changed, nor what a mark keeps of it
pub record AreSame (old new : Parts) : Type 0 where
  pub plan : plan_in new ≡ plan_in old
  pub cells : new.cells.contents ≡ old.cells.contents
  pub reports : new.reports ≡ old.reports
  pub actions : new.actions.contents ≡ old.actions.contents

-- Parts in which nothing has changed, and the stepper's state that parts stand for, with a step of it.
use Rattle.std.proofs.Common.{◌≡◌, List, [], sym, subst}
use Rattle.std.specs.Option.{unwrap_or}
use Rattle.px_value.specs.declared.value.Value.{Value}
use Rattle.px_core.specs.Plan.{Site}
use Rattle.px_sem.specs.Step.{micro}
use Rattle.px_sem.specs.Stepper.{Pending, stepped}
use Rattle.px_sem.specs.World.{World}
use Rattle.px_flat.specs.declared.act.Act.{Act}
use Rattle.px_flat.specs.Parts.{IsParts, world_of}
use Rattle.px_parts.specs.declared.parts.Parts.{Parts}
use Rattle.px_parts.specs.Marks.{state_by}
use Rattle.px_parts.specs.Parts.{AreOfOnePlan, AreSame, AreStanding, plan_in, world_in}

-- the same parts stand for the same world
pub same_stand : (old new : Parts) → AreSame old new → AreStanding old → AreStanding new
same_stand old new same stand =
    subst (λ (plan : List Site). IsParts plan new.cells.contents.values new.actions.contents.values) (sym same.plan)
    (subst (λ (values : List Value). IsParts (plan_in old) values new.actions.contents.values) (λ i. (sym same.cells i).values)
    (subst (λ (done : List Act). IsParts (plan_in old) old.cells.contents.values done) (λ i. (sym same.actions i).values) stand))

-- parts in which nothing has changed are one state
pub same_state : (begun : World → Pending) (old new : Parts) → AreSame old new → state_by begun new ≡ state_by begun old
same_state begun old new same i = record {
  nodes = same.plan i;
  world = world_of (same.plan i) (same.cells i).values (same.reports i).reports (same.actions i).values;
  pending = begun (world_of (same.plan i) (unwrap_or (same.cells i).marked []) (unwrap_or (same.reports i).marked [])
      (unwrap_or (same.actions i).marked []));
}

-- a micro step of the parts is one of the state
pub stepped_state : (begun : World → Pending) (old new : Parts) → AreOfOnePlan old new
    → world_in new ≡ micro (plan_in old) (world_in old) → state_by begun new ≡ stepped (state_by begun old)
stepped_state begun old new one world i = record {
  nodes = one.plan i;
  world = world i;
  pending = begun (world_of (one.plan i) (unwrap_or (one.cells i) []) (unwrap_or (one.reports i) [])
      (unwrap_or (one.actions i) []));
}

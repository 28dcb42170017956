-- Where moves are told, or not, all else of a step stays.
use Rattle.std.proofs.Common.{◌≡◌, Bool, true, false, List, sym, ◌∙◌}
use Rattle.px_sem.specs.declared.moves.Move.{Move}
use Rattle.px_sem.specs.Step.{move_of, moves}
use Rattle.px_flat.specs.Flat.{plan_of}
use Rattle.px_flat.specs.Parts.{world_of}
use Rattle.px_parts.specs.declared.parts.Parts.{Parts}
use Rattle.px_parts.specs.Parts.{AreStanding, plan_in, world_in}
use Rattle.px_parts.specs.Seen.{AreSeenAsBefore}
use Rattle.px_parts.proofs.Stepped.{same_stand}
use Rattle.px_micro.specs.declared.sight.Going.{Going}
use Rattle.px_micro.specs.Going.{AreAllGoing}
use Rattle.px_micro.specs.Stepping.{HasTold, HaveMoved, moves_after}
use Rattle.px_micro.specs.Turns.{moves_told}
use Rattle.px_micro.proofs.Goers.{gone}

told_world : (tells : Bool) (made : List Move) (old new : Parts) → HasTold tells made old new → world_in new ≡ world_in old
told_world tells made old new told i =
    world_of (plan_of (told.flat i)) (told.cells i).contents.values (told.reports i).reports (told.actions i).contents.values

pub told_stand : (tells : Bool) (made : List Move) (old new : Parts) → HasTold tells made old new → AreStanding old → AreStanding new
told_stand tells made old new told = same_stand old new (record {
  plan = λ i. plan_of (told.flat i);
  cells = λ i. (told.cells i).contents;
  reports = told.reports;
  actions = λ i. (told.actions i).contents;
})

pub told_seen : (tells : Bool) (made : List Move) (before old new : Parts) → HasTold tells made old new
    → AreSeenAsBefore before old → AreSeenAsBefore before new
told_seen tells made before old new told seen = record {
  cells = (λ i. (told.cells i).seen) ∙ seen.cells;
  actions = (λ i. (told.actions i).seen) ∙ seen.actions;
}

pub told_moved : (tells : Bool) (made : List Move) (before old new : Parts) → HasTold tells made old new
    → HaveMoved before old → HaveMoved before new
told_moved tells made before old new told moved = record {
  one_plan = record {
    plan = (λ i. plan_of (told.flat i)) ∙ moved.one_plan.plan;
    cells = (λ i. (told.cells i).contents.marked) ∙ moved.one_plan.cells;
    reports = (λ i. (told.reports i).marked) ∙ moved.one_plan.reports;
    actions = (λ i. (told.actions i).contents.marked) ∙ moved.one_plan.actions;
  };
  loud = moved.loud;
  world = told_world tells made old new told ∙ moved.world;
}

-- what was gathered of those that go is what was done
pub told_moves : (tells : Bool) (before : Parts) (going : List Going) (made old now : List Move)
    → AreAllGoing (plan_in before) (world_in before) going → made ≡ moves_told before tells going → old ≡ before.moves.items
    → now ≡ moves_after tells made old → now ≡ moves_after tells (moves (plan_in before) (world_in before)) before.moves.items
told_moves true before going made old now all gathered kept told =
    told ∙ gathered ∙ sym (gone (plan_in before) (world_in before) (move_of (plan_in before) (world_in before)) going all)
told_moves false before going made old now all gathered kept told = told ∙ kept

-- What one micro step leaves.
use Rattle.std.specs.Prelude.{◌≡◌, Bool, true, false, List, [], if◌then◌else◌}
use Rattle.px_sem.specs.declared.moves.Move.{Move}
use Rattle.px_sem.specs.Conflicts.{is_quiet}
use Rattle.px_sem.specs.Step.{micro, moves}
use Rattle.px_parts.specs.declared.parts.Parts.{Parts}
use Rattle.px_parts.specs.Parts.{plan_in, world_in, AreOfOnePlan, AreSame}

-- the world was not quiet, and took one micro step
pub record HaveMoved (old new : Parts) : Type 0 where
  pub one_plan : AreOfOnePlan old new
  pub loud : is_quiet (plan_in old) (world_in old) ≡ false
  pub world : world_in new ≡ micro (plan_in old) (world_in old)

-- the moves behind a step: those that were made, where they are told, and else those of before
abbrev pub moves_after : Bool → List Move → List Move → List Move
moves_after tells made before = if tells then made else before

-- these are the moves, where they are told; nothing else changes
pub record HasTold (tells : Bool) (made : List Move) (old new : Parts) : Type 0 where
  pub flat : new.flat ≡ old.flat
  pub cells : new.cells ≡ old.cells
  pub reports : new.reports ≡ old.reports
  pub actions : new.actions ≡ old.actions
  pub moves : new.moves.items ≡ moves_after tells made old.moves.items

-- it did, with these moves
pub record HaveStepped (old new : Parts) : Type 0 where
  pub one_plan : AreOfOnePlan old new
  pub loud : is_quiet (plan_in old) (world_in old) ≡ false
  pub world : world_in new ≡ micro (plan_in old) (world_in old)
  pub moves : new.moves.items ≡ moves (plan_in old) (world_in old)

-- the world is quiet, and nothing changed
pub record AreQuiet (old new : Parts) : Type 0 where
  pub same : AreSame old new
  pub quiet : is_quiet (plan_in old) (world_in old) ≡ true
  pub moves : new.moves.items ≡ []

abbrev pub Steps : Parts → Parts → Bool → Type 0
Steps old new true = HaveStepped old new
Steps old new false = AreQuiet old new

-- all is as before
pub record AreLeft (old new : Parts) : Type 0 where
  pub same : AreSame old new
  pub moves : new.moves.items ≡ old.moves.items

-- A micro step of the parts is one of the stepper's state.
use Rattle.std.proofs.Common.{Bool, true, false}
use Rattle.px_sem.specs.Stepper as stepper
use Rattle.px_parts.specs.declared.parts.Parts.{Parts}
use Rattle.px_parts.specs.Marks.{state_by}
use Rattle.px_parts.proofs.Stepped.{same_state, stepped_state}
use Rattle.px_micro.specs.Stepping as parts
use Rattle.px_naive.specs.declared.begun.Begun.{Begun}
use Rattle.px_naive.specs.Begun.{begun_in}

abbrev state_of : Begun → Parts → stepper.State
state_of begun parts = state_by (begun_in begun) parts

pub steps_are : (begun : Begun) (old new : Parts) (moved : Bool) → parts.Steps old new moved
    → stepper.Steps (state_of begun old) (state_of begun new) new.moves.items moved
steps_are begun old new true is =
    (is.loud, stepped_state (begun_in begun) old new is.one_plan is.world, is.moves)
steps_are begun old new false is = (is.quiet, same_state (begun_in begun) old new is.same, is.moves)

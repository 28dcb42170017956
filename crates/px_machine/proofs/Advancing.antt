-- A step is one, whether its moves are told or not.
use Rattle.std.proofs.Common.{◌≡◌, Bool, true, false, List, [], refl, sym}
use Rattle.std.proofs.lemmas.Bool.{false≢true}
use Rattle.px_sem.specs.declared.moves.Move.{Move}
use Rattle.px_sem.specs.Step.{moves}
use Rattle.px_sem.specs.Stepper.{State, Steps}
use Rattle.px_machine.specs.Machine.{StepsOn}

pub steps_on : (old new : State) (before now : List Move) (answer : Bool) → answer ≡ true → StepsOn false old new before now answer
    → Steps old new (moves old.nodes old.world) true × (now ≡ before)
steps_on old new before now false is step = absurd (false≢true is)
steps_on old new before now true is step = ((step.0, step.1, refl), step.2)

pub rests : (old new : State) (before now : List Move) (answer : Bool) → answer ≡ false → StepsOn false old new before now answer
    → Steps old new [] false × (now ≡ [])
rests old new before now true is step = absurd (false≢true (sym is))
rests old new before now false is step = ((step.0, step.1, refl), step.2)

pub steps_told : (old new : State) (before now : List Move) (answer : Bool) → StepsOn true old new before now answer
    → Steps old new now answer
steps_told old new before now true step = step
steps_told old new before now false step = step

use Rattle.std.proofs.Common.{true}
use Rattle.std.proofs.lemmas.Result.{IfOk-weaker}
use Rattle.px_sem.specs.Stepper.{Steps}
use Rattle.px_machine.specs.Machine.{StepsOn, state_in}
use Rattle.px_machine.proofs.Advancing.{steps_told}
use Rattle.px_machine.proofs.machine.MachineStepper.step.Goals as goal

pub returns-clause-ok : goal.returns-clause-ok
returns-clause-ok c =
    let old = c.args.self.now in
    let new = c.take_step.new.self in
    IfOk-weaker c.take_step.result (StepsOn true (state_in old) (state_in new) old.parts.moves.items new.parts.moves.items)
    (Steps (state_in old) (state_in new) new.parts.moves.items)
    (steps_told (state_in old) (state_in new) old.parts.moves.items new.parts.moves.items) c.take_step.ensures.ok

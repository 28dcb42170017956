-- The plan, the world and what is begun that a machine stands for.
use Rattle.std.specs.Prelude.{◌≡◌, Bool, true, false, List, []}
use Rattle.px_sem.specs.declared.moves.Move.{Move}
use Rattle.px_sem.specs.Conflicts.{is_quiet}
use Rattle.px_sem.specs.Step.{moves}
use Rattle.px_sem.specs.Stepper.{State, stepped}
use Rattle.px_parts.specs.Marks.{state_by}
use Rattle.px_parts.specs.declared.parts.Parts.{Parts}
use Rattle.px_micro.specs.Stepping.{moves_after}
use Rattle.px_machine.specs.declared.begun.Begun.{Begun}
use Rattle.px_machine.specs.declared.machine.Machine.{Machine}
use Rattle.px_machine.specs.Begun.{begun_in}

-- the state of a stepper with these parts, where this is begun
abbrev pub state_with : Begun → Parts → State
state_with now parts = state_by (begun_in now) parts

abbrev pub state_in : Machine → State
state_in machine = state_with machine.begun machine.parts

-- Where it answers true, the world was not quiet, and took one micro step; else nothing changed, and there are no moves.
abbrev pub StepsOn : Bool → State → State → List Move → List Move → Bool → Type 0
StepsOn tells old new before now true =
    (is_quiet old.nodes old.world ≡ false) × (new ≡ stepped old) × (now ≡ moves_after tells (moves old.nodes old.world) before)
StepsOn tells old new before now false = (is_quiet old.nodes old.world ≡ true) × (new ≡ old) × (now ≡ [])

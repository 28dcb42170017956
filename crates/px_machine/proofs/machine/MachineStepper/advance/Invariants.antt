use Rattle.std.proofs.Common.{◌≡◌}
use Rattle.px_sem.specs.Stepper.{with_event}
use Rattle.px_sem.proofs.Settles.{IsUnderway}
use Rattle.px_machine.specs.Machine.{state_in}
use Rattle.px_machine.proofs.machine.MachineStepper.advance.Given as goal

abbrev pub invariant-loop-taken : goal.invariant-loop-taken
invariant-loop-taken l = record {
  underway : IsUnderway (with_event (state_in l.fn.self) l.fn.event) (state_in l.self) l.taken;
  moves : l.self.parts.moves.items ≡ l.fn.self.parts.moves.items;
}

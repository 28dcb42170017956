use Rattle.px_sem.proofs.stepper.Stepper.advance.Given as goal
use Rattle.px_sem.specs.Stepper.{with_event, AreOnTheWay}
use Rattle.px_sem.proofs.Settles.{IsUnderway}

abbrev pub invariant-loop-taken : goal.invariant-loop-taken
invariant-loop-taken g l = record {
  underway : IsUnderway (with_event (g.Self.Stepper.state l.fn.self) l.fn.event) (g.Self.Stepper.state l.self) l.taken;
  moves : AreOnTheWay (with_event (g.Self.Stepper.state l.fn.self) l.fn.event) (g.Self.Stepper.last_moves l.fn.self) (g.Self.Stepper.last_moves l.self);
}

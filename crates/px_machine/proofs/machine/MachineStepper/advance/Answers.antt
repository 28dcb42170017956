use Rattle.std.proofs.Common.{refl, ap, sym, ◌∙◌, subst, arith}
use Rattle.px_sem.specs.Stepper.{is_pending, with_event}
use Rattle.px_sem.proofs.Settles.{IsUnderway, runs_away, settles_at, underway_after_step, underway_at_once}
use Rattle.px_machine.specs.Machine.{state_in}
use Rattle.px_machine.proofs.Advancing.{rests, steps_on}
use Rattle.px_machine.proofs.machine.MachineStepper.advance.Goals as goal

pub loop-taken-init : goal.loop-taken-init
loop-taken-init c =
    let from = with_event (state_in c.args.self.now) c.args.event.now in
    record {
      underway = subst (λ now. IsUnderway from now 0) (sym c.in_ok-begin.ensures.ok) (underway_at_once from);
      moves = c.begin.ensures.moves;
    }

pub take_step-requires : goal.take_step-requires
take_step-requires c = record { pending = ap is_pending c.loop-taken.invariant.underway.pending }

pub returns-in-Ok-false-clause-settled : goal.returns-in-Ok-false-clause-settled
returns-in-Ok-false-clause-settled c =
    let step = rests _ _ _ _ _ c.in-Ok-false.field-0-test c.in-Ok-false.ensures.ok in
    settles_at _ _ _ _ _ _ c.loop-taken.invariant.underway (omega arith) refl step.0

pub loop-taken-preserved : goal.loop-taken-preserved
loop-taken-preserved c =
    let step = steps_on _ _ _ _ _ c.in-Ok-true.field-0-test c.in-Ok-true.ensures.ok in
    record {
      underway = underway_after_step _ _ _ _ _ _ c.loop-taken.invariant.underway refl step.0;
      moves = step.1 ∙ c.loop-taken.invariant.moves;
    }

pub returns-clause-runaway : goal.returns-clause-runaway
returns-clause-runaway c = λ _. runs_away _ _ _ c.loop-taken.invariant.underway (omega arith)

use Rattle.std.proofs.Common.{sym, subst, arith, inl, inr}
use Rattle.px_sem.specs.Stepper.{with_event}
use Rattle.px_sem.proofs.Settles.{IsUnderway, underway_at_once, underway_after_step, moves_of_step, settles_at, runs_away}
use Rattle.px_sem.proofs.stepper.Stepper.advance.Goals as goal

pub loop-taken-init : goal.loop-taken-init
loop-taken-init g c =
    let from = with_event (g.Self.Stepper.state c.args.self.now) c.args.event.now in
    record {
      underway = subst (λ now. IsUnderway from now 0) (sym c.in_ok-begin.ensures.ok) (underway_at_once from);
      moves = inl c.begin.ensures.moves;
    }

pub returns-in-Ok-false-clause-settled : goal.returns-in-Ok-false-clause-settled
returns-in-Ok-false-clause-settled g c =
    settles_at _ _ _ _ _ _ c.loop-taken.invariant.underway (omega arith) c.in-Ok-false.field-0-test c.in-Ok-false.ensures.ok

pub loop-taken-preserved : goal.loop-taken-preserved
loop-taken-preserved g c =
    record {
      underway = underway_after_step _ _ _ _ _ _ c.loop-taken.invariant.underway c.in-Ok-true.field-0-test c.in-Ok-true.ensures.ok;
      moves = inr (c.loop-taken.taken, omega arith, moves_of_step _ _ _ _ _ _ c.loop-taken.invariant.underway c.in-Ok-true.field-0-test c.in-Ok-true.ensures.ok);
    }

pub returns-clause-runaway : goal.returns-clause-runaway
returns-clause-runaway g c = λ _. runs_away _ _ _ c.loop-taken.invariant.underway (omega arith)

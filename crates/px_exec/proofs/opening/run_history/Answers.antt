use Rattle.std.proofs.Common.{ℕ, Result, Err, ap, sym, subst, ◌∙◌, ◌+◌, arith, refl}
use Rattle.px_sem.specs.Stepper.{State, settled_state}
use Rattle.px_sem.specs.declared.settling.StepFault.{StepFault}
use Rattle.px_sem.proofs.Settles.{settled_quiet}
use Rattle.px_exec.specs.Opening.{RunsAwayAt}
use Rattle.px_exec.proofs.Running.{ran_none, ran_more, ran_all, runs_away_next}
use Rattle.px_exec.proofs.opening.run_history.Goals as goal

pub loop-entry-init : goal.loop-entry-init
loop-entry-init g c = record { counted = refl; ran = ran_none (g.S.Stepper.state c.args.stepper.now) c.args.history.now c.requires.nothing c.requires.started }

pub overflow_add-at : goal.overflow_add-at
overflow_add-at g c = omega (arith, c.loop-entry.invariant.counted, c.loop-entry-test.true, c.requires.few)

pub advance-requires-clause-nothing : goal.advance-requires-clause-nothing
advance-requires-clause-nothing g c = ap (λ (s : State). s.pending) c.loop-entry.invariant.ran.rest

pub settle-requires-clause-quiet : goal.settle-requires-clause-quiet
settle-requires-clause-quiet g c =
    settled_quiet _ _ (g.S.Stepper.state c.advance.new.self) _ (ap (λ (s : State). s.nodes) c.in-Ok.ensures.pending) c.in-Ok.ensures.settled

pub returns-in-Err-Runaway-clause-why : goal.returns-in-Err-Runaway-clause-why
returns-in-Err-Runaway-clause-why g c =
    subst (λ at. RunsAwayAt (g.S.Stepper.state c.args.stepper.now).nodes c.args.history.now (at + 1)) (sym c.loop-entry.invariant.counted)
    (runs_away_next _ _ _ _ c.entry-item.result c.loop-entry.invariant.ran c.loop-entry-test.true c.entry-item.is (c.in-Err-Runaway.ensures.runaway (ap (λ fault. let r : Result ℕ StepFault = Err fault in r) c.in-Err-Runaway.field-0-is)))

pub loop-entry-preserved : goal.loop-entry-preserved
loop-entry-preserved g c =
    let next = g.S.Stepper.state c.settle.new.self in
    let advanced = g.S.Stepper.state c.advance.new.self in
    record {
      counted = omega (arith, c.loop-entry.invariant.counted);
      ran = ran_more _ _ _ _ c.entry-item.result c.loop-entry.invariant.ran c.loop-entry-test.true c.entry-item.is next advanced.world _ c.in-Ok.ensures.settled
          (c.settle.ensures.rest ∙ ap (λ (s : State). settled_state s.nodes advanced.world) c.in-Ok.ensures.pending);
    }

pub returns-clause-runs : goal.returns-clause-runs
returns-clause-runs g c = ran_all _ _ _ _ c.loop-entry.invariant.ran (omega (arith, c.loop-entry-test.false))

pub returns-clause-rest : goal.returns-clause-rest
returns-clause-rest g c = c.loop-entry.invariant.ran.rest

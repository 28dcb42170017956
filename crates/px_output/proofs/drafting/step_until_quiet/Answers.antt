use Rattle.std.proofs.Common.{◌+◌, arith, sym, subst}
use Rattle.px_sem.specs.Stepper.{State}
use Rattle.px_sem.specs.Text.{step_text, steps_text, quiet_text}
use Rattle.px_sem.proofs.Settles.{underway_at_once, underway_after_step, settles_at, runs_away}
use Rattle.px_sem.proofs.Texts.{steps_text_none, settled_text_is}
use Rattle.px_output.specs.Drafts.{Keeps}
use Rattle.px_output.proofs.Drafted.{keeps_none, keeps_more}
use Rattle.px_output.proofs.Tracing.{IsStepped, text_more}
use Rattle.px_output.proofs.drafting.step_until_quiet.Goals as goal

pub loop-taken-init : goal.loop-taken-init
loop-taken-init g c =
    let from : State = g.S.Stepper.state c.args.stepper.now in record {
      underway = underway_at_once from;
      keeps = rw (steps_text_none from.nodes from.world) (keeps_none c.args.draft.now);
    }

pub returns-in_err-step-clause-behind : goal.returns-in_err-step-clause-behind
returns-in_err-step-clause-behind g c = (_, c.loop-taken.invariant.keeps)

pub returns-then-not-branch-clause-settled : goal.returns-then-not-branch-clause-settled
returns-then-not-branch-clause-settled g c =
    (c.loop-taken.taken, settles_at _ _ _ _ _ _ c.loop-taken.invariant.underway (omega arith) c.if-not-branch.true c.in_ok-step.ensures.ok)

pub returns-then-not-branch-clause-keeps : goal.returns-then-not-branch-clause-keeps
returns-then-not-branch-clause-keeps g c =
    let from : State = g.S.Stepper.state c.args.stepper.now in
    let settles = settles_at _ _ _ _ _ _ c.loop-taken.invariant.underway (omega arith) c.if-not-branch.true c.in_ok-step.ensures.ok in
    subst (Keeps c.args.draft.now c.quiet.new.self) (sym (settled_text_is from.nodes from.world _ c.loop-taken.taken settles))
    (keeps_more c.args.draft.now c.loop-taken.draft c.quiet.new.self (steps_text from.nodes from.world c.loop-taken.taken)
    (quiet_text c.loop-taken.taken) c.loop-taken.invariant.keeps c.quiet.ensures)

pub returns-then-not-branch-clause-behind : goal.returns-then-not-branch-clause-behind
returns-then-not-branch-clause-behind g c =
    (_, keeps_more _ _ _ _ _ c.loop-taken.invariant.keeps c.quiet.ensures)

pub loop-taken-preserved : goal.loop-taken-preserved
loop-taken-preserved g c =
    let from : State = g.S.Stepper.state c.args.stepper.now in
    let stepped : IsStepped (g.S.Stepper.state c.loop-taken.stepper) (g.S.Stepper.state c.step.new.self) c.moves.result.now = record {
      made = g.S.Stepper.last_moves c.step.new.self;
      answer = c.in_ok-step.field-0;
      yes = c.if-not-branch.false;
      steps = c.in_ok-step.ensures.ok;
      are = c.moves.ensures;
    } in
    record {
      underway = underway_after_step _ _ _ _ _ _ c.loop-taken.invariant.underway c.if-not-branch.false c.in_ok-step.ensures.ok;
      keeps = subst (Keeps c.args.draft.now c.step-in-loop-taken.new.self)
          (sym (text_more from _ _ c.loop-taken.taken c.moves.result.now c.loop-taken.invariant.underway stepped))
          (keeps_more c.args.draft.now c.loop-taken.draft c.step-in-loop-taken.new.self (steps_text from.nodes from.world c.loop-taken.taken)
          (step_text (c.loop-taken.taken + 1) c.moves.result.now) c.loop-taken.invariant.keeps c.step-in-loop-taken.ensures);
    }

pub returns-clause-runaway : goal.returns-clause-runaway
returns-clause-runaway g c = λ _. runs_away _ _ _ c.loop-taken.invariant.underway (omega arith)

pub returns-clause-behind : goal.returns-clause-behind
returns-clause-behind g c = (_, c.loop-taken.invariant.keeps)

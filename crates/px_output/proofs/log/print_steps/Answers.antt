use Rattle.std.proofs.Common.{arith}
use Rattle.px_sem.specs.Stepper.{State}
use Rattle.px_sem.specs.Text.{steps_text}
use Rattle.px_output.specs.View.{view}
use Rattle.px_output.proofs.Printed.{wants_memory, fails}
use Rattle.px_output.proofs.Tracing.{tracing_at_once, tracing_more, run_left, step_left, tracing_within, tracing_whole}
use Rattle.px_output.proofs.log.print_steps.Goals as goal

pub loop-count-init : goal.loop-count-init
loop-count-init g c = tracing_at_once _ _ _

pub returns-in_err-step-clause-prints : goal.returns-in_err-step-clause-prints
returns-in_err-step-clause-prints g c =
    let from : State = g.S.Stepper.state c.args.stepper.now in
    let more = run_left from (g.S.Stepper.state c.loop-count.stepper) c.loop-count.count c.loop-count.invariant.underway c.requires.settles in
    wants_memory (view g.H.Host c.args.host.now) (view g.H.Host c.loop-count.host) c.args.printer.now c.loop-count.printer _
    (steps_text from.nodes from.world c.loop-count.count) more.0 _ _ c.from_residual.ensures.1 c.loop-count.invariant.buffers more.1

pub overflow_add-count : goal.overflow_add-count
overflow_add-count g c =
    let within = tracing_within _ _ _ _ _ _ _ _ _ _ c.loop-count.invariant c.requires.settles
    c.if-branch.true c.in_ok-step.ensures.ok in
    omega (arith, within.0, within.1)

pub returns-in_err-step-2-clause-prints : goal.returns-in_err-step-2-clause-prints
returns-in_err-step-2-clause-prints g c =
    let from : State = g.S.Stepper.state c.args.stepper.now in
    let more = step_left from (g.S.Stepper.state c.loop-count.stepper) (g.S.Stepper.state c.step.new.self) c.loop-count.count c.moves.result.now
    c.loop-count.invariant.underway
    (record {
      made = g.S.Stepper.last_moves c.step.new.self;
      answer = c.in_ok-step.field-0;
      yes = c.if-branch.true;
      steps = c.in_ok-step.ensures.ok;
      are = c.moves.ensures;
    })
    c.requires.settles in
    fails Unit (view g.H.Host c.args.host.now) (view g.H.Host c.loop-count.host) (view g.H.Host c.step-in-loop-count.new.host) c.args.printer.now c.loop-count.printer
    c.step-in-loop-count.new.self _ (steps_text from.nodes from.world c.loop-count.count) _ more.0 _ _ _ c.from_residual-in_err-step-2.ensures.1
    c.loop-count.invariant.buffers c.loop-count.invariant.only c.in_err-step-2.ensures.prints more.1

pub loop-count-smaller : goal.loop-count-smaller
loop-count-smaller g c =
    let within = tracing_within _ _ _ _ _ _ _ _ _ _ c.loop-count.invariant c.requires.settles
    c.if-branch.true c.in_ok-step.ensures.ok in
    omega (arith, within.0, within.1)

pub loop-count-preserved : goal.loop-count-preserved
loop-count-preserved g c =
    tracing_more _ _ _ _ c.moves.result.now _ _ _ _ _ _ c.loop-count.invariant
    (record {
      made = g.S.Stepper.last_moves c.step.new.self;
      answer = c.in_ok-step.field-0;
      yes = c.if-branch.true;
      steps = c.in_ok-step.ensures.ok;
      are = c.moves.ensures;
    })
    c.in_ok-step-2.ensures.prints c.in_ok-step-2.ensures.only

pub returns-clause-settled : goal.returns-clause-settled
returns-clause-settled g c =
    (tracing_whole _ _ _ _ _ _ _ _ _ _ c.loop-count.invariant c.requires.settles
    c.if-branch.false c.in_ok-step.ensures.ok).0

pub returns-clause-prints : goal.returns-clause-prints
returns-clause-prints g c =
    (tracing_whole _ _ _ _ _ _ _ _ _ _ c.loop-count.invariant c.requires.settles
    c.if-branch.false c.in_ok-step.ensures.ok).1

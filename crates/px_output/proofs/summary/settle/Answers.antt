use Rattle.std.proofs.Common.{◌∙◌, Some, ap, sym, arith}
use Rattle.px_sem.specs.Stepper.{State}
use Rattle.px_sem.proofs.Settles.{underway_at_once, underway_after_step, underway_within, quiet_after, settles_at}
use Rattle.px_output.proofs.summary.settle.Goals as goal

pub loop-count-init : goal.loop-count-init
loop-count-init g c = underway_at_once _

pub overflow_add-count : goal.overflow_add-count
overflow_add-count g c =
    let more = underway_after_step _ _ _ _ _ _ c.loop-count.invariant c.if-branch.true c.in_ok-step.ensures.ok in
    let within = underway_within _ _ _ more c.requires.settles in
    omega (arith, within.0, within.1)

pub loop-count-smaller : goal.loop-count-smaller
loop-count-smaller g c =
    let more = underway_after_step _ _ _ _ _ _ c.loop-count.invariant c.if-branch.true c.in_ok-step.ensures.ok in
    let within = underway_within _ _ _ more c.requires.settles in
    omega (arith, within.0, within.1)

pub loop-count-preserved : goal.loop-count-preserved
loop-count-preserved g c = underway_after_step _ _ _ _ _ _ c.loop-count.invariant c.if-branch.true c.in_ok-step.ensures.ok

pub settle-requires-clause-quiet : goal.settle-requires-clause-quiet
settle-requires-clause-quiet g c =
    quiet_after (g.S.Stepper.state c.loop-count.stepper) (g.S.Stepper.state c.step.new.self) (g.S.Stepper.last_moves c.step.new.self) c.in_ok-step.field-0
    c.if-branch.false c.in_ok-step.ensures.ok

pub returns-clause-settled : goal.returns-clause-settled
returns-clause-settled g c =
    let from : State = g.S.Stepper.state c.args.stepper.now in
    let now : State = g.S.Stepper.state c.loop-count.stepper in
    let next : State = g.S.Stepper.state c.step.new.self in
    let within = underway_within from now c.loop-count.count c.loop-count.invariant c.requires.settles in
    settles_at from now next c.loop-count.count (g.S.Stepper.last_moves c.step.new.self) c.in_ok-step.field-0 c.loop-count.invariant
    (omega (arith, within.0, within.1)) c.if-branch.false c.in_ok-step.ensures.ok
    ∙ ap (λ (state : State). Some (state.world, c.loop-count.count)) (sym c.settle.ensures.rest)

pub returns-clause-few : goal.returns-clause-few
returns-clause-few g c =
    let within = underway_within (g.S.Stepper.state c.args.stepper.now) (g.S.Stepper.state c.loop-count.stepper) c.loop-count.count c.loop-count.invariant
    c.requires.settles in
    omega (arith, within.0, within.1)

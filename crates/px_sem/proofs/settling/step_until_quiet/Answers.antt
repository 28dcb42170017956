use Rattle.std.proofs.Common.{arith}
use Rattle.px_sem.proofs.Settles.{underway_at_once, underway_after_step, settles_at, runs_away}
use Rattle.px_sem.proofs.settling.step_until_quiet.Goals as goal

pub loop-taken-init : goal.loop-taken-init
loop-taken-init g c = underway_at_once _

pub returns-then-not-branch-clause-settled : goal.returns-then-not-branch-clause-settled
returns-then-not-branch-clause-settled g c =
    settles_at _ _ _ _ _ _ c.loop-taken.invariant (omega arith) c.if-not-branch.true c.in_ok-step.ensures.ok

pub loop-taken-preserved : goal.loop-taken-preserved
loop-taken-preserved g c =
    underway_after_step _ _ _ _ _ _ c.loop-taken.invariant c.if-not-branch.false c.in_ok-step.ensures.ok

pub returns-clause-runaway : goal.returns-clause-runaway
returns-clause-runaway g c = λ _. runs_away _ _ _ c.loop-taken.invariant (omega arith)

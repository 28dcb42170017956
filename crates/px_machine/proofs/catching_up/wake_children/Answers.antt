use Rattle.std.proofs.Common.{◌<◌, length, ap, sym, subst, arith}
use Rattle.px_flat.specs.declared.row.Extent.{Extent}
use Rattle.px_flat.specs.Flat.{plan_of}
use Rattle.px_cached.proofs.OneList.{now_noted}
use Rattle.px_micro.proofs.Families.{end_within}
use Rattle.px_machine.proofs.Waiting.{push_wakes}
use Rattle.px_machine.proofs.Waking.{HasWokenBefore, all_woken, woken_more}
use Rattle.px_machine.proofs.catching_up.wake_children.Goals as goal

pub children-preserved : goal.children-preserved
children-preserved c =
    let plan = plan_of c.args.flat.now in
    let child = c.children.child in
    let old = c.children.queue in
    let new = c.push_back_absent.new.self in
    let pushed = c.push_back_absent.ensures in
    let there : child < length plan =
    omega (arith, c.children-test.true, ap (λ (extent : Extent). extent.end) c.extent-end.ensures.extent, end_within plan c.args.node c.requires.node) in
    subst (λ next. HasWokenBefore plan c.args.node next c.args.queue.now new)
    (sym (ap (λ (extent : Extent). extent.end) c.extent-child.ensures.extent))
    (woken_more c.args.flat.now c.args.node child c.args.queue.now old new c.requires.node there c.children.invariant
    (push_wakes old new child pushed.holders pushed.links pushed.counts) (now_noted old new child 1 pushed.holders))

pub returns-clause-children : goal.returns-clause-children
returns-clause-children c =
    all_woken c.args.flat.now c.args.node c.children.child c.args.queue.now c.children.queue c.requires.node
    (omega (arith, c.children-test.false, ap (λ (extent : Extent). extent.end) c.extent-end.ensures.extent)) c.children.invariant

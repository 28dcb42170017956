use Rattle.std.proofs.Common.{◌+◌, None, refl, sym, subst}
use Rattle.px_cached.proofs.Climbing.{IsCarried, IsUpTo, begun, stopped, went}
use Rattle.px_cached.proofs.carrying.carry.Goals as goal

pub up-init : goal.up-init
up-init c =
    subst (λ truths. IsUpTo c.args.network.now c.args.above.now c.args.truths.now c.args.from c.args.truth truths c.args.from 1)
    (sym c.replace.ensures.truths)
    (begun c.args.network.now c.args.above.now c.requires.network c.args.truths.now c.args.from c.args.truth c.requires.part
    c.requires.sized c.requires.agree c.requires.settled)

pub returns-then-not-replace-2-clause-agree : goal.returns-then-not-replace-2-clause-agree
returns-then-not-replace-2-clause-agree c =
    let carried = subst
    (λ truths. IsCarried c.args.network.now c.args.above.now c.args.truths.now truths c.args.from c.args.truth None
    (c.up.looks + 1)) (sym c.replace-in-Part.ensures.truths)
    (stopped c.args.network.now c.args.above.now c.requires.network c.args.truths.now c.args.from c.args.truth c.requires.part
    c.up.truths c.up.at c.up.looks c.up.invariant c.in-Part.next c.in-Part.is c.truth_by_parts-truth.result
    c.truth_by_parts-truth.ensures (c.if-not-replace-2.ensures.same refl)) in
    carried.agree

pub returns-then-not-replace-2-clause-changed : goal.returns-then-not-replace-2-clause-changed
returns-then-not-replace-2-clause-changed c =
    let carried = subst
    (λ truths. IsCarried c.args.network.now c.args.above.now c.args.truths.now truths c.args.from c.args.truth None
    (c.up.looks + 1)) (sym c.replace-in-Part.ensures.truths)
    (stopped c.args.network.now c.args.above.now c.requires.network c.args.truths.now c.args.from c.args.truth c.requires.part
    c.up.truths c.up.at c.up.looks c.up.invariant c.in-Part.next c.in-Part.is c.truth_by_parts-truth.result
    c.truth_by_parts-truth.ensures (c.if-not-replace-2.ensures.same refl)) in
    carried.changed

pub up-preserved : goal.up-preserved
up-preserved c =
    subst (λ truths. IsUpTo c.args.network.now c.args.above.now c.args.truths.now c.args.from c.args.truth truths c.in-Part.next
    (c.up.looks + 1)) (sym c.replace-in-Part.ensures.truths)
    (went c.args.network.now c.args.above.now c.requires.network c.args.truths.now c.args.from c.args.truth c.requires.part
    c.up.truths c.up.at c.up.looks c.up.invariant c.in-Part.next c.in-Part.is c.truth_by_parts-truth.result
    c.truth_by_parts-truth.ensures)

pub returns-in-Condition-clause-node : goal.returns-in-Condition-clause-node
returns-in-Condition-clause-node c = (c.up.at, (c.up.invariant.inside, c.in-Condition.is))

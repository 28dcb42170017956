use Rattle.std.proofs.Common.{length, ap, arith}
use Rattle.px_expand.proofs.Actions.{room, seen_more}
use Rattle.px_expand.proofs.children.Children.of_actions.Goals as goal

pub push-requires : goal.push-requires
push-requires c =
    let own = room c.args.path.now c.args.actions.now c.loop-number.number c.index-actions-number.result c.loop-number-test.true
    c.index-actions-number.is c.loop-number.invariant.room in
    omega (arith, own.name, ap length c.in_ok-name.ensures)

pub loop-number-preserved : goal.loop-number-preserved
loop-number-preserved c =
    seen_more c.args.path.now c.args.actions.now c.loop-number.number c.index-actions-number.result _ _ _ _ _ _ c.in_ok-name.name
    c.loop-number-test.true c.index-actions-number.is c.in_ok-name.ensures c.in_ok-push.ensures.by_name c.in_ok-push.ensures.names
    c.in_ok-push.ensures.paths
    c.loop-number.invariant

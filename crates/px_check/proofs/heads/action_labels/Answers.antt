use Rattle.std.proofs.Common.{◌∙◌}
use Rattle.px_check.proofs.Seeing.{label_walked}
use Rattle.px_check.proofs.heads.action_labels.Goals as goal

pub loop-action-preserved : goal.loop-action-preserved
loop-action-preserved c =
    label_walked c.args.actions.now c.loop-action.action-index c.action-item.result _ _ c.loop-action-test.true
    c.action-item.is c.in_ok-push_label.ensures
    ∙ c.loop-action.invariant

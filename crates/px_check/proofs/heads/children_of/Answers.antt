use Rattle.std.proofs.Common.{ap, ◌∙◌}
use Rattle.px_syntax.specs.Scope.{head_of}
use Rattle.px_check.proofs.Seeing.{child_walked}
use Rattle.px_check.proofs.heads.children_of.Goals as goal

pub loop-action-preserved : goal.loop-action-preserved
loop-action-preserved c =
    child_walked c.args.actions.now c.loop-action.action-index c.action-item.result c.loop-action.heads.items
    c.push.new.self.items c.in_ok-head_of.field-0 c.loop-action-test.true c.action-item.is c.in_ok-push.ensures.items
    (c.in_ok-head_of.ensures ∙ ap (head_of _) c.is_command_body.ensures)
    ∙ c.loop-action.invariant

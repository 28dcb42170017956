use Rattle.std.proofs.Common.{◌∙◌}
use Rattle.px_machine.proofs.Requeueing.{right_after_pass}
use Rattle.px_machine.proofs.catching_up.catch_up.Goals as goal

pub behind-preserved : goal.behind-preserved
behind-preserved c = record {
  right =
      right_after_pass c.args.parts.now c.catch_up_node.new.kept c.pass.new.queue _ c.catch_up_node.ensures.right
      c.catch_up_node.ensures.caught_up c.pass.ensures;
  conditions = c.catch_up_node.ensures.conditions ∙ c.behind.invariant.conditions;
}

use Rattle.std.proofs.Common.{map, arith}
use Rattle.std.proofs.lemmas.List.{at_drop_all}
use Rattle.px_syntax.specs.Block.{action_of, actions_in_turn, else_ifs_in_turn, guarded_of}
use Rattle.px_expand.specs.Size.{actions_nodes, else_if_nodes}
use Rattle.px_expand.proofs.count.+count.Goals as goal

pub actions_nodes-returns : goal.actions_nodes-returns
actions_nodes-returns t c =
    omega (
      arith,
      at_drop_all (λ left. actions_nodes (actions_in_turn (map action_of left))) c.args.actions.now
          c.loop-action.action-index c.loop-action-test.false,
    )

pub else_if_nodes-returns : goal.else_if_nodes-returns
else_if_nodes-returns t c =
    omega (
      arith,
      at_drop_all (λ left. else_if_nodes (else_ifs_in_turn (map guarded_of left))) c.args.others.now
          c.loop-other.other-index c.loop-other-test.false,
    )

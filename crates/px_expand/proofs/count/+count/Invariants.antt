use Rattle.std.proofs.Common.{◌≡◌, ◌+◌, ◌-◌, ◌^◌, ◌≤◌, min, map, drop}
use Rattle.px_syntax.specs.Block.{action_of, actions_in_turn, else_ifs_in_turn, guarded_of}
use Rattle.px_expand.specs.Size.{actions_nodes, else_if_nodes}
use Rattle.px_expand.proofs.count.+count.Given as goal

abbrev pub invariant-actions_nodes-loop-action : goal.invariant-actions_nodes-loop-action
invariant-actions_nodes-loop-action l =
    (l.nodes ≤ 2 ^ 32 - 1)
    × (min (l.nodes + actions_nodes (actions_in_turn (map action_of (drop l.action-index l.actions)))) (2 ^ 32 - 1)
    ≡ min (actions_nodes (actions_in_turn (map action_of l.actions))) (2 ^ 32 - 1))

abbrev pub invariant-else_if_nodes-loop-other : goal.invariant-else_if_nodes-loop-other
invariant-else_if_nodes-loop-other l =
    (l.nodes ≤ 2 ^ 32 - 1)
    × (min (l.nodes + else_if_nodes (else_ifs_in_turn (map guarded_of (drop l.other-index l.others)))) (2 ^ 32 - 1)
    ≡ min (else_if_nodes (else_ifs_in_turn (map guarded_of l.others))) (2 ^ 32 - 1))

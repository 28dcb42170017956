use Rattle.std.proofs.Common.{◌≡◌, ◌++◌, map, drop}
use Rattle.px_syntax.specs.Block.{action_of, actions_in_turn}
use Rattle.px_syntax.specs.BlockFaults.{action_labels}
use Rattle.px_check.proofs.heads.action_labels.Given as goal

abbrev pub invariant-loop-action : goal.invariant-loop-action
invariant-loop-action l =
    map (λ label. label.now) l.labels.items
    ++ action_labels (actions_in_turn (map action_of (drop l.action-index l.actions)))
    ≡ action_labels (actions_in_turn (map action_of l.actions))

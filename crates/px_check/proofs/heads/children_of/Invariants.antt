use Rattle.std.proofs.Common.{◌≡◌, ◌++◌, map, drop}
use Rattle.px_syntax.specs.Block.{action_of, actions_in_turn}
use Rattle.px_syntax.specs.Scope.{children_of}
use Rattle.px_check.specs.Nodes.{head_data}
use Rattle.px_check.proofs.heads.children_of.Given as goal

abbrev pub invariant-loop-action : goal.invariant-loop-action
invariant-loop-action l =
    map head_data l.heads.items ++ children_of (actions_in_turn (map action_of (drop l.action-index l.actions)))
    ≡ children_of (actions_in_turn (map action_of l.actions))

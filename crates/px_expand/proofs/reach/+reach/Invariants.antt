use Rattle.std.proofs.Common.{◌≡◌, ◌+◌, ◌≤◌, suc, max, min, map, drop, length}
use Rattle.px_syntax.specs.Block.{action_of, actions_in_turn, else_ifs_in_turn, guarded_of}
use Rattle.px_expand.specs.Size.{actions_nodes, actions_reach, else_if_reach}
use Rattle.px_expand.proofs.reach.+reach.Given as goal

abbrev pub invariant-actions_reach-loop-action : goal.invariant-actions_reach-loop-action
invariant-actions_reach-loop-action l = record {
  few : l.place + actions_nodes (actions_in_turn (map action_of (drop l.action-index l.actions))) ≤ 4096;
  near : l.longest ≤ 5001;
  far :
      min (max l.longest (actions_reach (suc l.place) (actions_in_turn (map action_of (drop l.action-index l.actions))))) 5001
      ≡ min (actions_reach 1 (actions_in_turn (map action_of l.actions))) 5001;
}

abbrev pub invariant-else_if_reach-loop-place : goal.invariant-else_if_reach-loop-place
invariant-else_if_reach-loop-place l = record {
  within : l.place ≤ length l.others;
  reach : l.reach ≡ min (else_if_reach l.last (else_ifs_in_turn (map guarded_of (drop l.place l.others)))) 5001;
}

abbrev pub decreases-else_if_reach-loop-place : goal.decreases-else_if_reach-loop-place
decreases-else_if_reach-loop-place l = l.place

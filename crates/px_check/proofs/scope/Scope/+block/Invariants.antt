use Rattle.std.proofs.Common.{◌≡◌, map, drop, option_map}
use Rattle.px_syntax.specs.Block.{action_of, branch_of, guarded_of, actions_in_turn, else_ifs_in_turn, else_of}
use Rattle.px_syntax.specs.BlockFaults.{actions_faults, else_if_faults, else_child, inside_last}
use Rattle.px_check.specs.Found.{noted}
use Rattle.px_check.proofs.scope.Scope.+block.Given as goal

abbrev pub invariant-actions-loop-action : goal.invariant-actions-loop-action
invariant-actions-loop-action l = record {
  scope : l.self ≡ l.initial.self;
  found : noted l.found (actions_faults l.initial.self l.is_one_node (actions_in_turn (map action_of (drop l.action-index l.actions))))
      ≡ noted l.initial.found (actions_faults l.initial.self l.is_one_node (actions_in_turn (map action_of l.actions)));
}

abbrev pub invariant-else_ifs-loop-place : goal.invariant-else_ifs-loop-place
invariant-else_ifs-loop-place l = record {
  scope : inside_last l.self (else_ifs_in_turn (map guarded_of (drop l.place l.others)))
      (else_child (else_of (option_map branch_of l.otherwise)))
      ≡ inside_last l.initial.self (else_ifs_in_turn (map guarded_of l.others))
      (else_child (else_of (option_map branch_of l.otherwise)));
  found : noted l.found (else_if_faults l.self (else_ifs_in_turn (map guarded_of (drop l.place l.others)))
      (else_child (else_of (option_map branch_of l.otherwise))))
      ≡ noted l.initial.found (else_if_faults l.initial.self (else_ifs_in_turn (map guarded_of l.others))
      (else_child (else_of (option_map branch_of l.otherwise))));
}

use Rattle.std.proofs.Common.{◌≡◌, ◌++◌, map, drop}
use Rattle.px_syntax.specs.Block.{action_of, actions_in_turn, else_ifs_in_turn, guarded_of}
use Rattle.px_print.specs.BlockLayout.{actions_text, else_ifs_text}
use Rattle.px_print.proofs.block.+block.Given as goal

abbrev pub invariant-push_actions-loop-action : goal.invariant-push_actions-loop-action
invariant-push_actions-loop-action l = record {
  margin : l.margin.items ≡ l.initial.margin.items;
  text : l.out.items ++ actions_text l.initial.margin.items (actions_in_turn (map action_of (drop l.action-index l.actions)))
      ≡ l.initial.out.items ++ actions_text l.initial.margin.items (actions_in_turn (map action_of l.actions));
}

abbrev pub invariant-push_else_ifs-loop-other : goal.invariant-push_else_ifs-loop-other
invariant-push_else_ifs-loop-other l = record {
  margin : l.margin.items ≡ l.initial.margin.items;
  text : l.out.items ++ else_ifs_text l.initial.margin.items (else_ifs_in_turn (map guarded_of (drop l.other-index l.others)))
      ≡ l.initial.out.items ++ else_ifs_text l.initial.margin.items (else_ifs_in_turn (map guarded_of l.others));
}

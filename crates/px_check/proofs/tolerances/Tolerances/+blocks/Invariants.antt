use Rattle.std.proofs.Common.{◌≡◌, map, drop}
use Rattle.px_syntax.specs.Block.{action_of, guarded_of, actions_in_turn, else_ifs_in_turn}
use Rattle.px_syntax.specs.Tolerances.{actions_tolerances, else_if_tolerances}
use Rattle.px_check.specs.Tolerances.{met_all}
use Rattle.px_check.proofs.tolerances.Tolerances.+blocks.Given as goal

abbrev pub invariant-actions-loop-action : goal.invariant-actions-loop-action
invariant-actions-loop-action l =
    met_all l.self (actions_tolerances (actions_in_turn (map action_of (drop l.action-index l.actions))))
    ≡ met_all l.initial.self (actions_tolerances (actions_in_turn (map action_of l.actions)))

abbrev pub invariant-else_ifs-loop-guarded : goal.invariant-else_ifs-loop-guarded
invariant-else_ifs-loop-guarded l =
    met_all l.self (else_if_tolerances (else_ifs_in_turn (map guarded_of (drop l.guarded-index l.others))))
    ≡ met_all l.initial.self (else_if_tolerances (else_ifs_in_turn (map guarded_of l.others)))

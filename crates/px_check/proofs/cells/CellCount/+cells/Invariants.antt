use Rattle.std.proofs.Common.{◌≡◌, map, drop}
use Rattle.px_syntax.specs.Block.{action_of, guarded_of, actions_in_turn, else_ifs_in_turn}
use Rattle.px_syntax.specs.PlanFaults.{actions_cells, else_if_cells}
use Rattle.px_check.specs.Cells.{counted}
use Rattle.px_check.proofs.cells.CellCount.+cells.Given as goal

abbrev pub invariant-actions-loop-action : goal.invariant-actions-loop-action
invariant-actions-loop-action l =
    counted l.self (actions_cells (actions_in_turn (map action_of (drop l.action-index l.actions))))
    ≡ counted l.initial.self (actions_cells (actions_in_turn (map action_of l.actions)))

abbrev pub invariant-else_ifs-loop-guarded : goal.invariant-else_ifs-loop-guarded
invariant-else_ifs-loop-guarded l =
    counted l.self (else_if_cells (else_ifs_in_turn (map guarded_of (drop l.guarded-index l.others))))
    ≡ counted l.initial.self (else_if_cells (else_ifs_in_turn (map guarded_of l.others)))

use Rattle.std.proofs.Common.{◌≡◌, map, drop, option_map}
use Rattle.px_syntax.specs.Block.{branch_of, guarded_of, else_ifs_in_turn, else_of}
use Rattle.px_syntax.specs.BlockFaults.{if_label_faults}
use Rattle.px_check.proofs.branches.note_if_labels.Given as goal

abbrev pub invariant-loop-next : goal.invariant-loop-next
invariant-loop-next l =
    if_label_faults (guarded_of l.last) (else_ifs_in_turn (map guarded_of (drop l.next-index l.others)))
    (else_of (option_map branch_of l.otherwise))
    ≡ if_label_faults (guarded_of l.first) (else_ifs_in_turn (map guarded_of l.others))
    (else_of (option_map branch_of l.otherwise))

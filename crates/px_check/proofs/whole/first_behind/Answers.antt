use Rattle.std.proofs.Common.{option_map, ap, sym, ◌∙◌}
use Rattle.px_syntax.specs.Plan.{tree_of_surface}
use Rattle.px_syntax.specs.PlanFaults.{all_faults}
use Rattle.px_check.specs.Found.{Sought, fault_of, noted}
use Rattle.px_check.proofs.Behind.{first_in_order}
use Rattle.px_check.proofs.whole.first_behind.Goals as goal

pub returns : goal.returns
returns c =
    let all = all_faults (tree_of_surface c.args.tree.now) in
    c.first.ensures
    ∙ ap (λ (sought : Sought). sought.first)
    (c.in_ok-note_tree.ensures ∙ ap (λ (sought : Sought). noted sought all) c.new-found.ensures)
    ∙ sym (first_in_order (option_map fault_of c.args.floor) all)

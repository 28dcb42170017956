use Rattle.std.proofs.Common.{◌++◌, List, [], map, flat_map, ap, ◌∙◌}
use Rattle.px_syntax.specs.BlockFaults.{block_faults}
use Rattle.px_syntax.specs.Plan.{tree_of_surface, declaration_data}
use Rattle.px_syntax.specs.PlanFaults.{global_faults, outermost, passing_fault, block_cells}
use Rattle.px_syntax.specs.Scope.{commands_in, lookups_in}
use Rattle.px_syntax.specs.Tolerances.{block_tolerances, passing_tolerance}
use Rattle.px_syntax.specs.declared.plan.Declaration.{Declaration}
use Rattle.px_check.specs.Found.{noted}
use Rattle.px_check.proofs.Noting.{noted_then}
use Rattle.px_check.proofs.whole.note_tree.Goals as goal

pub returns : goal.returns
returns c =
    let plan = tree_of_surface c.args.tree.now in
    let before = global_faults (flat_map commands_in plan.declarations) ++ global_faults (flat_map lookups_in plan.declarations) in
    let inside = before ++ block_faults (outermost plan) plan.label plan.root in
    noted_then c.args.found.now c.note_cells.new.found c.note_tolerances.new.found
    (inside ++ passing_fault 0 (block_cells plan.root)) (passing_tolerance [] (block_tolerances plan.root))
    (noted_then c.args.found.now c.note_blocks.new.found c.note_cells.new.found
    inside (passing_fault 0 (block_cells plan.root))
    (noted_then c.args.found.now c.note_declarations.new.found c.note_blocks.new.found before
    (block_faults (outermost plan) plan.label plan.root)
    (c.in_ok-note_declarations.ensures
    ∙ ap (λ (declarations : List Declaration). noted c.args.found.now
    (global_faults (flat_map commands_in (map declaration_data declarations))
    ++ global_faults (flat_map lookups_in (map declaration_data declarations)))) c.deref.ensures.value)
    c.in_ok-note_blocks.ensures)
    c.note_cells.ensures)
    c.note_tolerances.ensures

use Rattle.std.proofs.Common.{ap, ◌∙◌}
use Rattle.px_syntax.specs.Block.{block_of}
use Rattle.px_syntax.specs.PlanFaults.{block_cells}
use Rattle.px_check.specs.Cells.{Count, counted}
use Rattle.px_check.specs.Found.{noted, passed_fault}
use Rattle.px_check.proofs.Passing.{passed_counted}
use Rattle.px_check.proofs.whole.note_cells.Goals as goal

pub returns : goal.returns
returns c =
    let cells = block_cells (block_of c.args.root.now) in
    c.note.ensures
    ∙ ap (λ (count : Count). noted c.args.found.now (passed_fault count.passed))
    (c.block.ensures ∙ ap (λ (count : Count). counted count cells) c.new-cells.ensures)
    ∙ ap (noted c.args.found.now) (passed_counted 0 cells)

use Rattle.std.proofs.Common.{[], ap, ◌∙◌}
use Rattle.px_syntax.specs.Block.{block_of}
use Rattle.px_syntax.specs.Tolerances.{block_tolerances}
use Rattle.px_check.specs.Found.{noted, passed_fault}
use Rattle.px_check.specs.Tolerances.{Met, met_all}
use Rattle.px_check.proofs.Meeting.{passed_met}
use Rattle.px_check.proofs.whole.note_tolerances.Goals as goal

pub returns : goal.returns
returns c =
    let tolerances = block_tolerances (block_of c.args.root.now) in
    c.note.ensures
    ∙ ap (λ (met : Met). noted c.args.found.now (passed_fault met.passed))
    (c.block.ensures ∙ ap (λ (met : Met). met_all met tolerances) c.new-tolerances.ensures)
    ∙ ap (noted c.args.found.now) (passed_met [] tolerances)

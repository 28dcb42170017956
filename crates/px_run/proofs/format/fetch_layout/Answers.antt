use Rattle.px_syntax.specs.Plan.{tree_of_surface}
use Rattle.px_run.proofs.format.fetch_layout.Goals as goal

pub returns-clause-ok : goal.returns-clause-ok
returns-clause-ok g c =
    let (text, plan, reads, spelled, counted) = c.in_ok-made.ensures.ok in
    ((text, plan), tree_of_surface c.in_ok-made.made.tree, reads, spelled, c.in_ok-text.ensures)

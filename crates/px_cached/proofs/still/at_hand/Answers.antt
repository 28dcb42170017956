use Rattle.std.proofs.Common.{sym, ◌∙◌}
use Rattle.std.proofs.lemmas.Option.{get_or_from_slice_get}
use Rattle.px_value.specs.declared.value.Value.TheVariants.{Unknown}
use Rattle.px_cached.specs.Still.{now_of}
use Rattle.px_cached.proofs.still.at_hand.Goals as goal

pub returns-in-Some-cell_of : goal.returns-in-Some-cell_of
returns-in-Some-cell_of c =
    let asker = c.args.asker.now in
    sym (get_or_from_slice_get asker.cells.now.contents.values c.in-Some-cell_of.cell c.get.result.now Unknown c.get.ensures)
    ∙ c.in-Some-cell_of.ensures.holds (now_of asker)

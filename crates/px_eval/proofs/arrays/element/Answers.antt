use Rattle.std.proofs.Common.{◌+◌, arith, ap, sym, ◌∙◌}
use Rattle.std.specs.Cow.{cow_value}
use Rattle.std.proofs.lemmas.Option.{get_or_from_slice_get}
use Rattle.px_value.specs.declared.value.Value.TheVariants.{Unknown}
use Rattle.px_value.specs.Value.{place_in}
use Rattle.px_eval.proofs.Elements.{element_at}
use Rattle.px_eval.proofs.arrays.element.Goals as goal

pub overflow_add-first : goal.overflow_add-first
overflow_add-first c = omega (arith, c.in-Some.ensures.within, c.requires.fits)

pub returns-in-Some : goal.returns-in-Some
returns-in-Some c =
    let cells = c.args.cells.now.contents.values in
    sym (get_or_from_slice_get cells (c.args.first + c.in-Some.place) c.get.result.now Unknown c.get.ensures)
    ∙ sym (element_at cells c.args.first c.args.size (cow_value c.args.at) c.in-Some.place c.requires.within
    (ap (place_in c.args.size) (sym c.read.ensures) ∙ sym c.in-Some.ensures.place) c.in-Some.ensures.within)

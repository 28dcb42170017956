use Rattle.std.proofs.Common.{refl, sym, subst}
use Rattle.std.proofs.lemmas.List.{take_more}
use Rattle.px_parts.specs.Parts.{plan_in}
use Rattle.px_machine.specs.declared.kept.Kept.{Kept}
use Rattle.px_machine.specs.Noticing.{HaveNotedCells}
use Rattle.px_machine.proofs.News.{cells_more}
use Rattle.px_machine.proofs.noticing.note_cells.Goals as goal

pub loop-cell-preserved : goal.loop-cell-preserved
loop-cell-preserved c =
    let plan = plan_in c.args.parts.now in
    let old = c.loop-cell.kept in
    let noted = c.note_cell.ensures in
    let new : Kept = record old { conditions = c.note_cell.new.conditions; queue = c.note_cell.new.queue } in
    subst (HaveNotedCells plan c.args.kept.now new) (sym (take_more c.news-news.result.now c.loop-cell.cell-index 0 c.loop-cell-test.true))
    (cells_more plan c.args.kept.now old new _ _ c.loop-cell.invariant (record {
      flat = noted.touched.flat;
      truths = noted.touched.truths;
      seen = noted.touched.seen;
      states = refl;
      told = refl;
      busy = refl;
      claims = refl;
    }) noted.touched noted.queue noted.noted)

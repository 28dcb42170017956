use Rattle.std.proofs.Common.{◌≡◌, ◌<◌, ◌∷◌, fold, length, All, ap, sym, ◌∙◌, subst, arith}
use Rattle.std.specs.Vec.Iter.{drain_items}
use Rattle.std.proofs.lemmas.List.{length-set}
use Rattle.std.proofs.lemmas.List.Elements.{All-tail}
use Rattle.px_micro.specs.declared.turns.CellValue.{CellValue}
use Rattle.px_micro.specs.Moving.{put_value}
use Rattle.px_micro.proofs.moving.begin.Goals as goal

pub loop-cell-preserved : goal.loop-cell-preserved
loop-cell-preserved c =
    let at = c.loop-cell in
    let old = at.cells.contents.values in
    let one = c.in-Some.field-0 in
    let left = drain_items c.next.new.self in
    let steps : drain_items at.cell-iterator ≡ one ∷ left = c.in-Some.ensures.steps.0 in
    let put : c.put.new.cells.contents.values ≡ put_value old one = c.put.ensures.values in
    let sized : length c.put.new.cells.contents.values ≡ length old = ap length put ∙ length-set old one.cell one.value in
    let within : All (λ (one : CellValue). one.cell < length old) left =
    All-tail (λ (one : CellValue). one.cell < length old) one left
    (subst (All (λ (one : CellValue). one.cell < length old)) steps at.invariant.within) in
    record {
      can = tt;
      finite = tt;
      within = λ k d few. omega (arith, within k d few, sized);
      room = omega (arith, at.invariant.room, c.put.ensures.room, ap length steps);
      left = omega (arith, at.invariant.left, c.put.ensures.room, ap length steps);
      values = ap (λ values. fold put_value values left) put ∙ sym (ap (fold put_value old) steps) ∙ at.invariant.values;
      marked = c.put.ensures.marked ∙ at.invariant.marked;
      seen = c.put.ensures.seen ∙ at.invariant.seen;
    }

use Rattle.std.proofs.Common.{◌≡◌, ◌+◌, ◌<◌, ◌≤◌, fold, length, All}
use Rattle.std.specs.Vec.Iter.{drain_items}
use Rattle.px_micro.specs.declared.turns.CellValue.{CellValue}
use Rattle.px_micro.specs.Moving.{put_value}
use Rattle.px_micro.proofs.moving.begin.Given as goal

abbrev pub invariant-loop-cell : goal.invariant-loop-cell
invariant-loop-cell l = record {
  can : (goal.iterator-loop-cell).can_next l.cell-iterator;
  finite : (goal.iterator-loop-cell).is_finite l.cell-iterator;
  within : All (λ (one : CellValue). one.cell < length l.cells.contents.values) (drain_items l.cell-iterator);
  room : length (drain_items l.cell-iterator) ≤ l.cells.room;
  left : l.initial.cells.room + length (drain_items l.cell-iterator) ≤ l.cells.room + length l.fn.initial.items;
  values : fold put_value l.cells.contents.values (drain_items l.cell-iterator)
      ≡ fold put_value l.initial.cells.contents.values l.fn.initial.items;
  marked : l.cells.contents.marked ≡ l.initial.cells.contents.marked;
  seen : l.cells.seen ≡ l.initial.cells.seen;
}

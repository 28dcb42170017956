use Rattle.std.proofs.Common.{◌≡◌, ◌*◌, ◌<◌, ◌≤◌, fold, length, All}
use Rattle.std.specs.Vec.Iter.{drain_items}
use Rattle.px_flat.specs.Flat.{plan_of}
use Rattle.px_flat.specs.Layout.{all_cells}
use Rattle.px_micro.specs.declared.turns.Turn.{Turn}
use Rattle.px_micro.specs.Moving.{with_turn, with_turn_act}
use Rattle.px_micro.proofs.moving.arrive_all.Given as goal

abbrev pub invariant-loop-turn : goal.invariant-loop-turn
invariant-loop-turn l = record {
  can : (goal.iterator-loop-turn).can_next l.turn-iterator;
  finite : (goal.iterator-loop-turn).is_finite l.turn-iterator;
  within : All (λ (turn : Turn). turn.going.node < length (plan_of l.flat)) (drain_items l.turn-iterator);
  all_cells : length l.cells.contents.values ≡ all_cells (plan_of l.flat);
  all_acts : length l.actions.contents.values ≡ length (plan_of l.flat);
  room : 5 * length (drain_items l.turn-iterator) ≤ l.cells.room;
  acts_room : length (drain_items l.turn-iterator) ≤ l.actions.room;
  values : fold (with_turn (plan_of l.flat)) l.cells.contents.values (drain_items l.turn-iterator)
      ≡ fold (with_turn (plan_of l.flat)) l.initial.cells.contents.values l.fn.turns.items;
  acts : fold with_turn_act l.actions.contents.values (drain_items l.turn-iterator)
      ≡ fold with_turn_act l.initial.actions.contents.values l.fn.turns.items;
  marked : l.cells.contents.marked ≡ l.initial.cells.contents.marked;
  acts_marked : l.actions.contents.marked ≡ l.initial.actions.contents.marked;
  seen : l.cells.seen ≡ l.initial.cells.seen;
  acts_seen : l.actions.seen ≡ l.initial.actions.seen;
}

-- How the values of the mark are kept: beside each value that was written since, the one that stood there.
use Rattle.std.specs.Prelude.{◌≡◌, ◌≢◌, ◌-◌, ◌<◌, ◌^◌, false, [], length, AllPairs, Some, None, vec_len, if◌then◌else◌}
use Rattle.std.specs.Vec.{vec_capacity}
use Rattle.px_cells.specs.declared.marked.Marked.TheInside.{Inside}
use Rattle.px_cells.specs.Marked.{MarkedData}
use Rattle.px_cells.specs.Marks.{at_mark, AreNoted, IsAsSeen}

module _ {T : Type 0} where
  abbrev pub marked_data : Inside T → MarkedData T
  marked_data m = record {
    contents = record {
      values = m.values.items;
      marked = if m.is_marked then Some (at_mark m.olds.items m.values.items) else None;
      changed = m.changed.items;
    };
    room = vec_capacity m.changed - vec_len m.changed;
    seen = m.seen.value.items;
    news = m.news.numbers;
  }

  pub record IsKept (m : Inside T) : Type 0 where
    pub sized : length m.olds.items ≡ length m.values.items
    pub small : length m.values.items < 2 ^ 32
    pub noted : AreNoted m.olds.items m.changed.items
    pub once : AllPairs (λ a b. a ≢ b) m.changed.items
    pub unmarked : m.is_marked ≡ false → m.changed.items ≡ []
    pub counted : m.news.count ≡ length m.values.items
    pub as_seen : IsAsSeen m.values.items m.seen.value.items m.news.numbers

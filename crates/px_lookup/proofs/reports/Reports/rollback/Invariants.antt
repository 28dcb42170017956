use Rattle.std.proofs.Common.{◌≡◌, Some, length, All}
use Rattle.std.specs.Map.{values_of}
use Rattle.px_lookup.specs.Undoing.{HadLatchedEach, LatchEach, undone_each}
use Rattle.px_lookup.proofs.reports.Reports.rollback.Given as goal

abbrev pub invariant-loop-change : goal.invariant-loop-change
invariant-loop-change l = record {
  marked : Some (undone_each l.self-inside.changes.items l.self-inside.values.entries) ≡ l.fn.self.marked;
  tolerances : l.self-inside.tolerances.items ≡ l.fn.self.tolerances;
  latching : All (LatchEach l.self-inside.tolerances.items) (values_of l.self-inside.values.entries);
  before : All (HadLatchedEach l.self-inside.tolerances.items) l.self-inside.changes.items;
}

abbrev pub decreases-loop-change : goal.decreases-loop-change
decreases-loop-change l = length l.self-inside.changes.items

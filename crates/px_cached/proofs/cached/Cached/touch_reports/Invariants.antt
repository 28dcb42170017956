use Rattle.std.proofs.Common.{◌≡◌, ℕ, ◌+◌, ◌-◌, ◌<◌, ◌≤◌, true, map, sum}
use Rattle.std.specs.List.{range_with_len}
use Rattle.px_flat.specs.Layout.{all_cells}
use Rattle.px_cached.specs.Cached.{due, is_touched, plan_in}
use Rattle.px_cached.specs.Costs.{cost}
use Rattle.px_cached.proofs.cached.Cached.touch_reports.Given as goal

abbrev pub invariant-loop-number : goal.invariant-loop-number
invariant-loop-number l = record {
  flat : l.self.flat ≡ l.fn.self.flat;
  truths : l.self.truths ≡ l.fn.self.truths;
  seen : l.self.seen ≡ l.fn.self.seen;
  all : (source : ℕ) → all_cells (plan_in l.fn.self) ≤ source → source < l.number → is_touched l.self source ≡ true;
  least : all_cells (plan_in l.fn.self) ≤ l.number;
  owed : due l.self ≤ due l.fn.self + sum (map (cost (plan_in l.fn.self))
      (range_with_len (all_cells (plan_in l.fn.self)) (l.number - all_cells (plan_in l.fn.self))));
  others : (source : ℕ) → is_touched l.fn.self source ≡ true → is_touched l.self source ≡ true;
}

use Rattle.std.proofs.Common.{◌≡◌, ℕ, ◌<◌, ◌≤◌, false, length, map, sum}
use Rattle.std.specs.List.{range_with_len}
use Rattle.px_links.specs.Links.{is_absent}
use Rattle.px_cached.specs.Costs.{in_all}
use Rattle.px_cached.proofs.noticing.all_noted.Given as goal

abbrev pub invariant-loop-number : goal.invariant-loop-number
invariant-loop-number l = record {
  cells : l.noted.cells ≡ l.count;
  lists : length l.noted.lists ≡ 1;
  owed : (cost : ℕ → ℕ) → in_all cost l.noted ≤ sum (map cost (range_with_len 0 l.number));
  all : (number : ℕ) → number < l.number → is_absent l.noted number ≡ false;
}

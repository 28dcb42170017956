use Rattle.std.proofs.Common.{◌≡◌, ℕ, ◌-◌, ◌<◌, ◌≤◌, false, nat_eq, length, get_or}
use Rattle.px_cached.proofs.sources.place_among.Given as goal

abbrev pub invariant-loop-at : goal.invariant-loop-at
invariant-loop-at l = record {
  within : l.at ≤ length l.tolerances;
  before : (k : ℕ) → k < l.at → nat_eq l.tolerance (get_or l.tolerances k 0) ≡ false;
}

abbrev pub decreases-loop-at : goal.decreases-loop-at
decreases-loop-at l = length l.tolerances - l.at

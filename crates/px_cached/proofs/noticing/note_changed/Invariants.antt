use Rattle.std.proofs.Common.{◌≡◌, ℕ, ◌+◌, ◌≤◌, ◌++◌, ◌⊎◌, All, false, sum_by}
use Rattle.px_links.specs.Links.{is_absent, SameCounts}
use Rattle.px_cached.specs.Costs.{in_all}
use Rattle.px_cached.specs.Still.{IsStill}
use Rattle.px_cached.proofs.noticing.note_changed.Given as goal

abbrev pub invariant-loop-part : goal.invariant-loop-part
invariant-loop-part l = record {
  front : l.fn.dependents ≡ l.yielded ++ l.part-iterator;
  noted : All (λ (part : ℕ). (is_absent l.stale part ≡ false) ⊎ IsStill l.asker part) l.yielded;
  still : (part : ℕ) → is_absent l.initial.stale part ≡ false → is_absent l.stale part ≡ false;
  owed : (cost : ℕ → ℕ) → in_all cost l.stale ≤ in_all cost l.initial.stale + sum_by cost l.yielded;
  counts : SameCounts l.initial.stale l.stale;
}

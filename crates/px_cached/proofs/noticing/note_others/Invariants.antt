use Rattle.std.proofs.Common.{◌≡◌, ℕ, ◌+◌, ◌≤◌, ◌⊎◌, false, take, sum_by}
use Rattle.std.specs.List.{AllWithin}
use Rattle.px_links.specs.Links.{is_absent, SameCounts}
use Rattle.px_cached.specs.Costs.{in_all}
use Rattle.px_cached.specs.Still.{IsStill}
use Rattle.px_cached.proofs.noticing.note_others.Given as goal

abbrev pub invariant-loop-part : goal.invariant-loop-part
invariant-loop-part l = record {
  noted : AllWithin (λ (part : ℕ). (is_absent l.stale part ≡ false) ⊎ IsStill l.asker part) l.others 0 l.part-index;
  still : (part : ℕ) → is_absent l.initial.stale part ≡ false → is_absent l.stale part ≡ false;
  owed : (cost : ℕ → ℕ) → in_all cost l.stale ≤ in_all cost l.initial.stale + sum_by cost (take l.part-index l.others);
  counts : SameCounts l.initial.stale l.stale;
}

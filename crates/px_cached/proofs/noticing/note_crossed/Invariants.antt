use Rattle.std.proofs.Common.{◌≡◌, ℕ, ◌+◌, ◌≤◌, false, take, sum_by}
use Rattle.std.specs.List.{AllWithin}
use Rattle.px_links.specs.Links.{is_absent, SameCounts}
use Rattle.px_cached.specs.declared.watching.Watcher.{Watcher}
use Rattle.px_cached.specs.Costs.{in_all}
use Rattle.px_cached.proofs.noticing.note_crossed.Given as goal

abbrev pub invariant-loop-at : goal.invariant-loop-at
invariant-loop-at l = record {
  noted : AllWithin (λ (watcher : Watcher). is_absent l.stale watcher.part ≡ false) l.watch.watchers.items l.from l.at;
  still : (part : ℕ) → is_absent l.initial.stale part ≡ false → is_absent l.stale part ≡ false;
  owed : (cost : ℕ → ℕ) → in_all cost l.stale
      ≤ in_all cost l.initial.stale + sum_by (λ watcher. cost watcher.part) (take l.at l.watch.watchers.items);
  counts : SameCounts l.initial.stale l.stale;
}

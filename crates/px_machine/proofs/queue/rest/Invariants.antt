use Rattle.std.proofs.Common.{◌≡◌, ◌⊎◌, ℕ, true, length}
use Rattle.px_links.specs.Links.{holder_of, is_absent, SameCounts}
use Rattle.px_links.specs.Lists.{nth}
use Rattle.px_machine.specs.Queue.{IsWoken}
use Rattle.px_machine.proofs.queue.rest.Given as goal

abbrev pub invariant-woken : goal.invariant-woken
invariant-woken l = record {
  each : (node : ℕ) → (holder_of l.queue node ≡ holder_of l.initial.queue node)
      ⊎ (IsWoken l.initial.queue node × (is_absent l.queue node ≡ true));
  counts : SameCounts l.initial.queue l.queue;
}

abbrev pub decreases-woken : goal.decreases-woken
decreases-woken l = length (nth l.queue.lists 1)

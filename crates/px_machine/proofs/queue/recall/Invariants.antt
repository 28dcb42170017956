use Rattle.std.proofs.Common.{length}
use Rattle.px_links.specs.Links.{SameCounts}
use Rattle.px_links.specs.Lists.{nth}
use Rattle.px_machine.specs.Queue.{HaveTheSame}
use Rattle.px_machine.proofs.queue.recall.Given as goal

abbrev pub invariant-woken : goal.invariant-woken
invariant-woken l = record {
  same : HaveTheSame l.initial.queue l.queue;
  counts : SameCounts l.initial.queue l.queue;
}

abbrev pub decreases-woken : goal.decreases-woken
decreases-woken l = length (nth l.queue.lists 1)

use Rattle.std.proofs.Common.{◌≡◌, ℕ, ◌<◌, ◌≤◌, length, None}
use Rattle.px_links.specs.Links.{holder_of}
use Rattle.px_machine.specs.Queue.{IsBehind}
use Rattle.px_machine.proofs.queue.all_behind.Given as goal

abbrev pub invariant-loop-node : goal.invariant-loop-node
invariant-loop-node l = record {
  cells : l.queue.cells ≡ l.nodes;
  lists : length l.queue.lists ≡ 2;
  all : (node : ℕ) → node < l.node → IsBehind l.queue node;
  none : (node : ℕ) → l.node ≤ node → holder_of l.queue node ≡ None;
}

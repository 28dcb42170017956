use Rattle.std.proofs.Common.{◌≡◌, ◌+◌, ◌<◌, ℕ, drop, get_or, length}
use Rattle.std.specs.List.{position_or_len}
use Rattle.px_assign.specs.Keeping.{is_node}
use Rattle.px_assign.proofs.firsts.ranks.Given as goal

-- each node has its place among the writers from this one on
abbrev pub invariant-loop-place : goal.invariant-loop-place
invariant-loop-place l = record {
  sized : length l.ranks.items ≡ l.nodes;
  right : (node : ℕ) → node < l.nodes
      → get_or l.ranks.items node 0 ≡ l.place + position_or_len (is_node node) (drop l.place l.writers);
}

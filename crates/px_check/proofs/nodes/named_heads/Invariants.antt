use Rattle.std.proofs.Common.{◌≡◌, ◌++◌, map, length}
use Rattle.px_check.specs.Nodes.{head_data, named_heads}
use Rattle.px_check.proofs.nodes.named_heads.Given as goal

abbrev pub invariant-loop-head : goal.invariant-loop-head
invariant-loop-head l =
    named_heads (map head_data l.rest) ++ l.names ≡ named_heads (map head_data l.heads)

abbrev pub decreases-loop-head : goal.decreases-loop-head
decreases-loop-head l = length l.rest

use Rattle.std.proofs.Common.{◌≡◌, length}
use Rattle.std.specs.List.{find}
use Rattle.px_value.specs.Enums.{handle_word}
use Rattle.px_core.specs.Plan.{is_same}
use Rattle.px_script.specs.NodeLine.{handle_of}
use Rattle.px_script.proofs.node_line.handle_of.Given as goal

-- the handle is that of those that are left
abbrev pub invariant-loop-handles : goal.invariant-loop-handles
invariant-loop-handles l = find (λ handle. is_same (handle_word handle) l.word) l.handles ≡ handle_of l.word

abbrev pub decreases-loop-handles : goal.decreases-loop-handles
decreases-loop-handles l = length l.handles

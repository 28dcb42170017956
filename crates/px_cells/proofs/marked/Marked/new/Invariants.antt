use Rattle.std.proofs.Common.{◌≡◌, replicate, None}
use Rattle.px_cells.proofs.marked.Marked.new.Given as goal

abbrev pub invariant-loop : goal.invariant-loop
invariant-loop g l = l.olds.items ≡ replicate l.counter None

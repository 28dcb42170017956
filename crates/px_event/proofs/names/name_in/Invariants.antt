use Rattle.std.proofs.Common.{◌≡◌, length}
use Rattle.px_event.specs.Names.{name_of}
use Rattle.px_event.proofs.names.name_in.Given as goal

abbrev pub invariant-loop-rows : goal.invariant-loop-rows
invariant-loop-rows l = name_of l.thread l.rows ≡ name_of l.thread l.initial.rows

abbrev pub decreases-loop-rows : goal.decreases-loop-rows
decreases-loop-rows l = length l.rows

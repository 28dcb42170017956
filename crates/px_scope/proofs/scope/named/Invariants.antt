use Rattle.std.proofs.Common.{◌≡◌, reverse, length}
use Rattle.px_scope.specs.Scope.{named_from}
use Rattle.px_scope.proofs.scope.named.Given as goal

abbrev pub invariant-loop-frame : goal.invariant-loop-frame
invariant-loop-frame l = named_from l.name (reverse l.frames) ≡ named_from l.fn.name (reverse l.fn.frames)

abbrev pub decreases-loop-frame : goal.decreases-loop-frame
decreases-loop-frame l = length l.frames

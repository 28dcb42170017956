use Rattle.std.proofs.Common.{◌≡◌, reverse, length}
use Rattle.px_scope.specs.Scope.{declared_from}
use Rattle.px_scope.proofs.scope.declared.Given as goal

abbrev pub invariant-loop-frame : goal.invariant-loop-frame
invariant-loop-frame l = declared_from l.name (reverse l.frames) ≡ declared_from l.fn.name (reverse l.fn.frames)

abbrev pub decreases-loop-frame : goal.decreases-loop-frame
decreases-loop-frame l = length l.frames

use Rattle.std.proofs.Common.{length}
use Rattle.px_output.specs.View.{view}
use Rattle.px_output.proofs.Printed.{IsEmitting}
use Rattle.px_output.proofs.printer.emit_all.Given as goal

abbrev pub invariant-loop-rest : goal.invariant-loop-rest
invariant-loop-rest g l = IsEmitting (view g.H.Host l.initial.host) l.text (view g.H.Host l.host) l.rest

abbrev pub decreases-loop-rest : goal.decreases-loop-rest
decreases-loop-rest g l = length l.rest

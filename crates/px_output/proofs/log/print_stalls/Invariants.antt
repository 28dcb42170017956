use Rattle.px_output.specs.View.{view}
use Rattle.px_output.proofs.Listing.{IsListed}
use Rattle.px_output.proofs.Logging.{wait_line}
use Rattle.px_output.proofs.log.print_stalls.Given as goal

abbrev pub invariant-loop-stall : goal.invariant-loop-stall
invariant-loop-stall g l = IsListed wait_line l.stalls l.stall-index (view g.H.Host l.fn.host) l.fn.printer (view g.H.Host l.host) l.printer

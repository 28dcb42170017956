use Rattle.px_sem.specs.Text.{log_line}
use Rattle.px_output.specs.View.{view}
use Rattle.px_output.proofs.Listing.{IsListed}
use Rattle.px_output.proofs.log.print_replies.Given as goal

abbrev pub invariant-loop-logged : goal.invariant-loop-logged
invariant-loop-logged g l = IsListed log_line l.log l.logged-index (view g.H.Host l.fn.host) l.fn.printer (view g.H.Host l.host) l.printer

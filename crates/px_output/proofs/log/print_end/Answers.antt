use Rattle.std.proofs.Common.{refl}
use Rattle.px_sem.specs.Text.{log_lines, standing_text}
use Rattle.px_output.specs.View.{view}
use Rattle.px_output.proofs.Printed.{ends, fails_first}
use Rattle.px_output.proofs.log.print_end.Goals as goal

pub returns-in_err-print_replies-clause-prints : goal.returns-in_err-print_replies-clause-prints
returns-in_err-print_replies-clause-prints g c =
    fails_first Unit (view g.H.Host c.args.host.now) (view g.H.Host c.print_replies.new.host) c.args.printer.now c.print_replies.new.printer _
    (log_lines c.args.log.now) (standing_text c.args.standing) _ _ _ c.from_residual.ensures.1 c.in_err-print_replies.ensures.prints refl

pub returns-clause-prints : goal.returns-clause-prints
returns-clause-prints g c =
    ends (view g.H.Host c.args.host.now) (view g.H.Host c.print_replies.new.host) (view g.H.Host c.standing.new.host) c.args.printer.now
    c.print_replies.new.printer c.standing.new.self (log_lines c.args.log.now) (standing_text c.args.standing) _ _ refl
    c.in_ok-print_replies.ensures.prints c.in_ok-print_replies.ensures.only c.standing.ensures.prints

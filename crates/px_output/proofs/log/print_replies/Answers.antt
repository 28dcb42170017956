use Rattle.std.proofs.Common.{◌+◌, take, drop}
use Rattle.px_sem.specs.Text.{log_line, log_lines}
use Rattle.px_output.specs.View.{view}
use Rattle.px_output.proofs.Listing.{none_listed, one_listed, lines_left}
use Rattle.px_output.proofs.Printed.{fails}
use Rattle.px_output.proofs.log.print_replies.Goals as goal

pub loop-logged-init : goal.loop-logged-init
loop-logged-init g c = none_listed log_line c.args.log.now (view g.H.Host c.args.host.now) c.args.printer.now

pub returns-in_err-reply-clause-prints : goal.returns-in_err-reply-clause-prints
returns-in_err-reply-clause-prints g c =
    let log = c.args.log.now in
    let count = c.loop-logged.logged-index in
    let logged = c.logged-item.result in
    fails Unit (view g.H.Host c.args.host.now) (view g.H.Host c.loop-logged.host) (view g.H.Host c.reply.new.host) c.args.printer.now
    c.loop-logged.printer c.reply.new.self _ (log_lines (take count log)) (log_line logged) (log_lines (drop (count + 1) log)) _ _ _
    c.from_residual.ensures.1 c.loop-logged.invariant.buffers c.loop-logged.invariant.only c.in_err-reply.ensures.prints
    (lines_left log_line log count logged c.loop-logged-test.true c.logged-item.is)

pub loop-logged-preserved : goal.loop-logged-preserved
loop-logged-preserved g c =
    one_listed log_line c.args.log.now c.loop-logged.logged-index c.logged-item.result c.loop-logged-test.true c.logged-item.is
    (view g.H.Host c.args.host.now) (view g.H.Host c.loop-logged.host) (view g.H.Host c.reply.new.host) c.args.printer.now c.loop-logged.printer
    c.reply.new.self c.loop-logged.invariant c.in_ok-reply.ensures.prints c.in_ok-reply.ensures.only

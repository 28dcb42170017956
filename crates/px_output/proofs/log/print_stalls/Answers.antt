use Rattle.std.proofs.Common.{◌+◌, take, drop}
use Rattle.px_output.specs.Stalls.{stall_lines}
use Rattle.px_output.proofs.Logging.{wait_line}
use Rattle.px_output.specs.View.{view}
use Rattle.px_output.proofs.Listing.{none_listed, one_listed, lines_left}
use Rattle.px_output.proofs.Printed.{fails}
use Rattle.px_output.proofs.log.print_stalls.Goals as goal

pub loop-stall-init : goal.loop-stall-init
loop-stall-init g c = none_listed wait_line c.args.stalls.now (view g.H.Host c.args.host.now) c.args.printer.now

pub returns-in_err-stall-clause-prints : goal.returns-in_err-stall-clause-prints
returns-in_err-stall-clause-prints g c =
    let stalls = c.args.stalls.now in
    let count = c.loop-stall.stall-index in
    let stall = c.stall-item.result in
    fails Unit (view g.H.Host c.args.host.now) (view g.H.Host c.loop-stall.host) (view g.H.Host c.stall.new.host) c.args.printer.now
    c.loop-stall.printer c.stall.new.self _ (stall_lines (take count stalls)) (wait_line stall) (stall_lines (drop (count + 1) stalls)) _ _ _
    c.from_residual.ensures.1 c.loop-stall.invariant.buffers c.loop-stall.invariant.only c.in_err-stall.ensures.prints
    (lines_left wait_line stalls count stall c.loop-stall-test.true c.stall-item.is)

pub loop-stall-preserved : goal.loop-stall-preserved
loop-stall-preserved g c =
    one_listed wait_line c.args.stalls.now c.loop-stall.stall-index c.stall-item.result c.loop-stall-test.true c.stall-item.is
    (view g.H.Host c.args.host.now) (view g.H.Host c.loop-stall.host) (view g.H.Host c.stall.new.host) c.args.printer.now c.loop-stall.printer
    c.stall.new.self c.loop-stall.invariant c.in_ok-stall.ensures.prints c.in_ok-stall.ensures.only

use Rattle.std.proofs.Common.{length, arith}
use Rattle.std.specs.Option.{option_copied}
use Rattle.px_value.proofs.General.{first_and_rest}
use Rattle.px_output.specs.View.{view}
use Rattle.px_output.proofs.Naming.{parted_as, counted_more, naming_at_once, line_left, naming_more}
use Rattle.px_output.proofs.Printed.{fails, only_same, only_more}
use Rattle.px_output.proofs.names.print_lines.Goals as goal

pub loop-history-init : goal.loop-history-init
loop-history-init g c = record {
  naming = λ named are. naming_at_once named (view g.H.Host c.args.host.now) c.args.printer.now c.args.history.now c.args.names.now are;
  only = only_same (view g.H.Host c.args.host.now);
  counted = omega arith;
}

pub returns-in_err-name-clause-prints : goal.returns-in_err-name-clause-prints
returns-in_err-name-clause-prints g c = λ named entries_are names_are.
    let naming = c.loop-history.invariant.naming named (record { entries_are = entries_are; names_are = names_are }) in
    let history = first_and_rest c.loop-history.history.now _ (omega (arith, c.in-len1-up.len_at_least)) c.entry-item.is in
    let names = parted_as c.loop-history.names.now _ _ c.in-len1-up-names.len_at_least c.name-item.is c.as_ref.ensures.value in
    fails Unit (view g.H.Host c.args.host.now) (view g.H.Host c.loop-history.host) (view g.H.Host c.name.new.host) c.args.printer.now
    c.loop-history.printer c.name.new.self _ naming.told _ _ _ _ _ c.from_residual.ensures.1 naming.buffers c.loop-history.invariant.only
    c.in_err-name.ensures.prints
    (line_left named (view g.H.Host c.args.host.now) (view g.H.Host c.loop-history.host) (view g.H.Host c.name.new.host)
    c.args.printer.now c.loop-history.printer c.name.new.self c.loop-history.position _ _ naming c.entry-item.result (option_copied c.as_ref.result) _ _ history names)

pub loop-history-preserved : goal.loop-history-preserved
loop-history-preserved g c = record {
  naming = λ named are.
      naming_more named (view g.H.Host c.args.host.now) (view g.H.Host c.loop-history.host) (view g.H.Host c.name.new.host)
      c.args.printer.now c.loop-history.printer c.name.new.self c.loop-history.position c.loop-history.history.now c.loop-history.names.now
      (c.loop-history.invariant.naming named are) c.entry-item.result (option_copied c.as_ref.result) _ _
      (first_and_rest c.loop-history.history.now _ (omega (arith, c.in-len1-up.len_at_least)) c.entry-item.is)
      (parted_as c.loop-history.names.now _ _ c.in-len1-up-names.len_at_least c.name-item.is c.as_ref.ensures.value)
      c.in_ok-name.ensures.prints;
  only = only_more (view g.H.Host c.args.host.now) (view g.H.Host c.loop-history.host) (view g.H.Host c.name.new.host) c.loop-history.invariant.only c.in_ok-name.ensures.only;
  counted = counted_more c.loop-history.position c.loop-history.history.now _ (length c.args.history.now) c.in-len1-up.len_at_least c.entry-item.is c.loop-history.invariant.counted;
}

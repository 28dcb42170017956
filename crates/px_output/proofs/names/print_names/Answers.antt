use Rattle.std.proofs.Common.{Ok, refl}
use Rattle.px_trace.specs.Names.{name_lines}
use Rattle.px_output.specs.View.{view}
use Rattle.px_output.proofs.Printed.{finished, from_nothing}
use Rattle.px_output.proofs.names.print_names.Goals as goal

pub returns-clause-prints : goal.returns-clause-prints
returns-clause-prints g c = λ named entries_are names_are.
    let old = view g.H.Host c.args.host.now in
    let mid = view g.H.Host c.print_lines.new.host in
    let text = name_lines 1 named in
    finished old mid (view g.H.Host c.finish.new.host) c.print_lines.new.printer text text _ refl
    (from_nothing old mid _ _ text (Ok tt) c.new-printer.ensures (c.in_ok-print_lines.ensures.prints named entries_are names_are))
    c.in_ok-print_lines.ensures.only c.finish.ensures.prints

use Rattle.std.proofs.Common.{sym, ◌∙◌}
use Rattle.px_output.specs.View.{view}
use Rattle.px_run.proofs.ReadNames.{none_read, names_printed, names_broken_off}
use Rattle.px_run.proofs.names.names.Goals as goal

pub returns-in-Err-clause-names : goal.returns-in-Err-clause-names
returns-in-Err-clause-names g c =
    rw c.into.ensures (none_read g.D.Disk c.args.journal.now c.args.disk (view g.H.Host c.args.host.now) c.in-Err.field-0 c.in-Err.ensures.refused)

pub returns-in-Ok-print_names-clause-names : goal.returns-in-Ok-print_names-clause-names
returns-in-Ok-print_names-clause-names g c =
    let read = c.in-Ok.recovered in
    let r = c.in-Ok.ensures.read in
    names_printed g.D.Disk c.args.journal.now c.args.disk read r (view g.H.Host c.args.host.now) (view g.H.Host c.print_names.new.host) c.into_disk-disk.result
    c.into_disk-disk.ensures
    (c.in-Ok-print_names.ensures.prints r.found (r.history ∙ sym c.deref.ensures.value) (r.names ∙ sym c.deref-2.ensures.value))

pub returns-clause-names : goal.returns-clause-names
returns-clause-names g c =
    let read = c.in-Ok.recovered in
    let r = c.in-Ok.ensures.read in
    rw c.into-in-Err-print_names.ensures
    (names_broken_off g.D.Disk c.args.journal.now c.args.disk read r (view g.H.Host c.args.host.now) (view g.H.Host c.print_names.new.host) c.into_disk-disk.result
    c.into_disk-disk.ensures c.in-Err-print_names.fault
    (c.in-Err-print_names.ensures.prints r.found (r.history ∙ sym c.deref.ensures.value) (r.names ∙ sym c.deref-2.ensures.value)))

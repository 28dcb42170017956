use Rattle.std.proofs.Common.{slice_get, ap, sym, ◌∙◌}
use Rattle.std.specs.Map.Iter.{deref_pair}
use Rattle.std.specs.Option.{option_map}
use Rattle.px_lookup.proofs.Reporting.{lookup-report_at, report_there}
use Rattle.px_lookup.proofs.reports.found.Goals as goal

pub returns-in-Some : goal.returns-in-Some
returns-in-Some c =
    report_there c.args.state.now _ c.in-Some.report.now c.args.values.now.entries c.args.first c.as_slice.ensures.unique
    (ap (λ entries. slice_get entries c.args.first) (sym c.as_slice.ensures.entries)
    ∙ sym c.get_index.ensures.entry ∙ ap (option_map deref_pair) c.in-Some.is)
    (sym c.eq.ensures ∙ c.if-eq.true)

pub returns-in_default : goal.returns-in_default
returns-in_default c = c.get.ensures.value ∙ lookup-report_at c.args.state.now c.args.values.now.entries

use Rattle.std.proofs.Common.{slice_get, ap, sym, ◌∙◌}
use Rattle.std.specs.Map.Iter.{deref_pair}
use Rattle.std.specs.Option.{option_map}
use Rattle.px_lookup.proofs.Reporting.{stands_there}
use Rattle.px_lookup.proofs.reports.stands_at.Goals as goal

pub returns-in-Some-clause-place : goal.returns-in-Some-clause-place
returns-in-Some-clause-place c = λ same.
    stands_there (record { name = c.args.name.now; args = c.args.args.now }) c.in-Some.state.now _ c.args.values.now.entries
    c.args.at c.as_slice.ensures.unique
    (ap (λ entries. slice_get entries c.args.at) (sym c.as_slice.ensures.entries)
    ∙ sym c.get_index.ensures.entry ∙ ap (option_map deref_pair) c.in-Some.is)
    (sym c.is_of.ensures ∙ same)

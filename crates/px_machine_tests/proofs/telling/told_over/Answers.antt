use Rattle.std.proofs.Common.{IsTrue, sym, subst}
use Rattle.std.proofs.lemmas.List.Sums.{AllPass-from_list_all}
use Rattle.px_event.specs.Fit.{is_fit_entry}
use Rattle.px_machine_tests.proofs.telling.told_over.Goals as goal

pub accepts-requires-clause-fit : goal.accepts-requires-clause-fit
accepts-requires-clause-fit g c =
    subst (λ entry. IsTrue (is_fit_entry entry)) (sym c.entry-item.is)
    (AllPass-from_list_all is_fit_entry c.args.entries.now c.requires.entries c.loop-entry.entry-index c.entry-item.result c.loop-entry-test.true)

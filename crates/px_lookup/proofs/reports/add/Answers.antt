use Rattle.std.proofs.Common.{ap, sym, ◌∙◌, subst}
use Rattle.indexmap.specs.IndexMap.{insert_entry}
use Rattle.px_sem.specs.World.{is_same_state}
use Rattle.px_lookup.specs.declared.reports.Change.TheVariants.{Added}
use Rattle.px_lookup.specs.Undoing.{IsChange}
use Rattle.px_lookup.proofs.Latching.{added_change}
use Rattle.px_lookup.proofs.Reporting.{added-reported}
use Rattle.px_lookup.proofs.reports.add.Goals as goal

pub returns-clause-ok : goal.returns-clause-ok
returns-clause-ok c =
    let entries = c.args.values.now.entries in
    c.in_ok-insert.ensures.entries ∙ ap (insert_entry is_same_state entries c.args.state) c.in_ok-report.ensures
    ∙ added-reported c.args.tolerances.now c.args.state c.args.given.now entries c.requires.new

pub returns-clause-change : goal.returns-clause-change
returns-clause-change c =
    let entries = c.args.values.now.entries in
    subst (λ after. IsChange c.args.tolerances.now entries after Added)
    (sym (c.in_ok-insert.ensures.entries ∙ ap (insert_entry is_same_state entries c.args.state) c.in_ok-report.ensures))
    (added_change c.args.tolerances.now c.args.state c.args.given.now c.args.values.now c.requires.new)

use Rattle.std.proofs.Common.{◌≡◌, ◌≤◌, length, ap, sym, ◌∙◌, rules}
use Rattle.px_lookup.specs.Undoing.{undone}
use Rattle.px_lookup.specs.declared.reports.Change.TheVariants.{Replaced}
use Rattle.px_lookup.proofs.Reporting.{set_value_at-behind}
use Rattle.px_lookup.proofs.reports.undo.Goals as goal

pub returns-else-at-len : goal.returns-else-at-len
returns-else-at-len c =
    let entries = c.args.values.now.entries in
    let behind : length entries ≤ c.in-Replaced.at = search rules in
    let change : c.args.change ≡ Replaced c.in-Replaced.at c.in-Replaced.old = search rules in
    sym (set_value_at-behind entries c.in-Replaced.at c.in-Replaced.old behind)
    ∙ ap (λ change. undone change entries) (sym change)

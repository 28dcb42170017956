use Rattle.std.proofs.Common.{◌≡◌, Some, slice_get, ap, sym, ◌∙◌, subst}
use Rattle.std.specs.Map.{values_of}
use Rattle.indexmap.specs.IndexMap.{set_value_at}
use Rattle.px_sem.specs.Events.{next_report}
use Rattle.px_lookup.specs.declared.reports.Change.TheVariants.{Replaced}
use Rattle.px_lookup.specs.Undoing.{IsChange}
use Rattle.px_lookup.proofs.Latching.{replaced_change}
use Rattle.px_lookup.proofs.Reporting.{replaced-reported}
use Rattle.px_lookup.proofs.reports.replace.Goals as goal

pub returns-clause-ok : goal.returns-clause-ok
returns-clause-ok c = λ tolerances state stands.
    let entries = c.args.values.now.entries in
    let old = c.replace-old.result in
    let is : slice_get (values_of entries) c.args.at ≡ Some old = c.index_mut.ensures.value ∙ ap Some (sym c.replace-old.ensures.value) in
    let same : c.index.result.now ≡ old = cc (sym c.index.ensures ∙ is) in
    ap (set_value_at entries c.args.at) (c.replace-old.ensures.after ∙ c.in_ok-next.ensures ∙ ap (λ old. next_report old c.args.given.now) same)
    ∙ replaced-reported tolerances state c.args.given.now entries c.args.at old stands is

pub returns-clause-change : goal.returns-clause-change
returns-clause-change c = λ tolerances.
    let entries = c.args.values.now.entries in
    let old = c.replace-old.result in
    let is : slice_get (values_of entries) c.args.at ≡ Some old = c.index_mut.ensures.value ∙ ap Some (sym c.replace-old.ensures.value) in
    let same : c.index.result.now ≡ old = cc (sym c.index.ensures ∙ is) in
    subst (λ report. IsChange tolerances entries (set_value_at entries c.args.at report) (Replaced c.args.at old))
    (sym (c.replace-old.ensures.after ∙ c.in_ok-next.ensures ∙ ap (λ old. next_report old c.args.given.now) same))
    (replaced_change tolerances c.args.given.now entries c.args.at old is)

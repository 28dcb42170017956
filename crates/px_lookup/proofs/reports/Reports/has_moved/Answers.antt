use Rattle.std.proofs.Common.{take, get_or, All, subst, sym, ◌∙◌}
use Rattle.std.proofs.lemmas.List.{take_more, take_all}
use Rattle.std.proofs.lemmas.List.Elements.{All-push}
use Rattle.std.specs.Option.{IsSome}
use Rattle.px_lookup.specs.Reports.{HasStayed, ReportsData}
use Rattle.px_lookup.specs.Undoing.{IsAsLatched}
use Rattle.px_lookup.proofs.Staying.{stayed_since}
use Rattle.px_lookup.proofs.reports.Reports.has_moved.Goals as goal

pub loop-change-preserved : goal.loop-change-preserved
loop-change-preserved c =
    let items = c.deref-change-items.result.now in
    let at = c.loop-change.change-index in
    let change = c.change-item.result in
    let entries = c.self.inside.values.entries in
    subst (All (IsAsLatched entries c.args.tolerance)) (sym (take_more items at change c.loop-change-test.true))
    (All-push (IsAsLatched entries c.args.tolerance) (take at items) (get_or items at change) c.loop-change.invariant
    (subst (IsAsLatched entries c.args.tolerance) c.change-item.is
    (c.has_stayed.ensures c.if-not-has_stayed.false)))

pub returns : goal.returns
returns c =
    let items = c.deref-change-items.result.now in
    let entries = c.self.inside.values.entries in
    λ _. subst (λ (held : ReportsData). HasStayed held c.args.tolerance) c.self.view_is
    (stayed_since c.args.tolerance c.self.inside.is_marked c.self.inside.changes.items entries
    (subst (λ (held : ReportsData). IsSome held.marked) (sym c.self.view_is) c.requires)
    (subst (All (IsAsLatched entries c.args.tolerance))
    (take_all c.loop-change.change-index items c.loop-change-test.false ∙ c.deref-change-items.ensures.value)
    c.loop-change.invariant))

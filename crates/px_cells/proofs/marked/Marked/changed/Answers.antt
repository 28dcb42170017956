use Rattle.std.proofs.Common.{◌≡◌, ◌<◌, ap, sym, subst, ◌∙◌, length, get_or, Some, IsSome}
use Rattle.px_cells.specs.Marked.{MarkedData}
use Rattle.px_cells.specs.Marks.{at_mark}
use Rattle.px_cells.proofs.Noting.{changed_within, others_same}
use Rattle.px_cells.proofs.Writing.{marked_is}
use Rattle.px_cells.proofs.marked.Marked.changed.Goals as goal

pub returns-clause-within : goal.returns-clause-within
returns-clause-within g c = λ k d within.
    let olds = c.self.inside.olds.items in
    let changed = c.self.inside.changed.items in
    let many : length c.args.self.now.contents.values ≡ length olds =
    ap (λ (m : MarkedData g.row.T.Denot). length m.contents.values) (sym c.self.view_is) ∙ sym c.self.invariant.sized in
    subst (λ values. values) (ap (λ n. get_or c.deref.result.now k d < n) (sym many))
    (subst (λ cells. get_or cells k d < length olds) (sym c.deref.ensures.value)
    (changed_within olds changed k d c.self.invariant.noted (subst (λ cells. k < length cells) c.deref.ensures.value within)))

pub returns-clause-others : goal.returns-clause-others
returns-clause-others g c =
    let olds = c.self.inside.olds.items in
    let values = c.self.inside.values.items in
    let changed = c.self.inside.changed.items in
    let marked : c.args.self.now.contents.marked ≡ Some (at_mark olds values) =
    ap (λ (m : MarkedData g.row.T.Denot). m.contents.marked) (sym c.self.view_is)
    ∙ marked_is c.self.inside.is_marked olds values changed
    (subst (λ (m : MarkedData g.row.T.Denot). IsSome m.contents.marked) (sym c.self.view_is) c.requires) in
    let now : c.args.self.now.contents.values ≡ values =
    ap (λ (m : MarkedData g.row.T.Denot). m.contents.values) (sym c.self.view_is) in
    rw (marked, now, c.deref.ensures.value)
    (λ at other. others_same olds values changed at c.self.invariant.sized c.self.invariant.noted other)

use Rattle.std.proofs.Common.{◌≡◌, length, slice_get, Contains, ap, subst, arith}
use Rattle.px_cells.specs.Marked.{MarkedData}
use Rattle.px_cells.proofs.Flagging.{not_noted}
use Rattle.px_cells.proofs.marked.Marked.news.Goals as goal

pub returns-clause-within : goal.returns-clause-within
returns-clause-within g c = λ k d within.
    let many = ap (λ (m : MarkedData g.row.T.Denot). length m.contents.values) c.self.view_is in
    omega (arith, many, c.self.invariant.counted, c.numbers.ensures.within k d within)

pub returns-clause-others : goal.returns-clause-others
returns-clause-others g c = λ at other.
    subst (λ (m : MarkedData g.row.T.Denot). slice_get m.contents.values at ≡ slice_get m.seen at) c.self.view_is
    (c.self.invariant.as_seen at (not_noted c.self.inside.news.numbers at
    (subst (λ numbers. Contains numbers at → ⊥) c.numbers.ensures.value other)))

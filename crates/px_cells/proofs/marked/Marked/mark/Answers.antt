use Rattle.std.proofs.Common.{◌≡◌, [], ap, sym, subst, ◌∙◌, false, nat_eq, IsNone}
use Rattle.std.specs.List.{list_any}
use Rattle.px_cells.specs.Marked.{MarkedData}
use Rattle.px_cells.proofs.Writing.{set_mark, is_free}
use Rattle.px_cells.proofs.marked.Marked.mark.Goals as goal

pub returns-clause-contents : goal.returns-clause-contents
returns-clause-contents g c =
    let olds = c.self.inside.olds.items in
    let values = c.self.inside.values.items in
    let changed = c.self.inside.changed.items in
    let free : c.self.inside.is_marked ≡ false =
    is_free c.self.inside.is_marked olds values changed
    (subst (λ (m : MarkedData g.row.T.Denot). IsNone m.contents.marked) (sym c.self.view_is) c.requires) in
    let empty : changed ≡ [] = c.self.invariant.unmarked free in
    set_mark olds values changed c.args.self.now.contents
    c.self.invariant.sized (λ at. c.self.invariant.noted at ∙ ap (list_any (nat_eq at)) empty) empty
    (ap (λ (m : MarkedData g.row.T.Denot). m.contents.values) (sym c.self.view_is))

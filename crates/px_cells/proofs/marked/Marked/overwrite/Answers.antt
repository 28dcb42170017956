use Rattle.std.proofs.Common.{◌≡◌, length, false, IsNone, ap, sym, ◌∙◌, subst, arith}
use Rattle.px_cells.specs.Marked.{MarkedData, written}
use Rattle.px_cells.proofs.Kept.{kept_write}
use Rattle.px_cells.proofs.Writing.{free_write, is_free}
use Rattle.px_cells.proofs.marked.Marked.overwrite.Goals as goal

pub note-requires : goal.note-requires
note-requires g c =
    let many = ap (λ (m : MarkedData g.row.T.Denot). length m.contents.values) c.self.view_is in
    omega (arith, many, c.self.invariant.counted, c.requires.within)

pub invariant_of-self : goal.invariant_of-self
invariant_of-self g c = kept_write c.self.inside c.args.at c.args.value c.note.new.self c.self.invariant c.note.ensures

pub returns-clause-contents : goal.returns-clause-contents
returns-clause-contents g c =
    let olds = c.self.inside.olds.items in
    let values = c.self.inside.values.items in
    let changed = c.self.inside.changed.items in
    let free : c.self.inside.is_marked ≡ false =
    is_free c.self.inside.is_marked olds values changed
    (subst (λ (m : MarkedData g.row.T.Denot). IsNone m.contents.marked) (sym c.self.view_is) c.requires.unmarked) in
    free_write c.self.inside.is_marked olds values changed c.args.at c.args.value free
    ∙ ap (λ (m : MarkedData g.row.T.Denot). written m.contents c.args.at c.args.value) c.self.view_is

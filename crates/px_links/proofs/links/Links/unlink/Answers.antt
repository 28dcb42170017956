use Rattle.std.proofs.Common.{◌≡◌, length, None, ap, sym, ◌∙◌}
use Rattle.px_links.specs.Links.{LinksData, unlinked, holder_of}
use Rattle.px_links.specs.Lists.{without_cell}
use Rattle.px_links.specs.Keeping.{lists_in, cell_at}
use Rattle.px_links.proofs.Handing.{kept, data_is}
use Rattle.px_links.proofs.Holding.{held-unlinked}
use Rattle.px_links.proofs.Reading.{holder_now, absent-unlinked}
use Rattle.px_links.proofs.links.Links.unlink.Goals as goal

pub take_out-requires-clause-held : goal.take_out-requires-clause-held
take_out-requires-clause-held c = rw (c.deref_mut.ensures.value) (
    holder_now c.self.inside c.args.self.now c.self.view_is c.self.invariant c.args.cell
    ∙ sym c.holds.ensures.answer ∙ c.in-Some.is)

pub invariant_of-self : goal.invariant_of-self
invariant_of-self c = kept c.self.inside c.take_out.new.cells c.take_out.new.ends _ c.take_out.ensures
    (c.take_out.auto.cells ∙ c.deref_mut.ensures.len) (c.take_out.auto.ends ∙ c.deref_mut-in-Some.ensures.len)

pub returns-in-Some-clause-links : goal.returns-in-Some-clause-links
returns-in-Some-clause-links c =
    data_is c.self.inside c.take_out.new.cells c.take_out.new.ends _ c.take_out.ensures
    (c.take_out.auto.cells ∙ c.deref_mut.ensures.len) (c.take_out.auto.ends ∙ c.deref_mut-in-Some.ensures.len)
    ∙ (λ i. record {
      cells = length c.self.inside.cells.items;
      lists = without_cell (lists_in (c.deref_mut.ensures.value i) (c.deref_mut-in-Some.ensures.value i)) c.args.cell;
    })
    ∙ ap (λ (links : LinksData). unlinked links c.args.cell) c.self.view_is

pub returns-in-None-clause-links : goal.returns-in-None-clause-links
returns-in-None-clause-links c =
    let cells = c.self.inside.cells.items in
    let ends = c.self.inside.ends.items in
    let absent : (cell_at cells c.args.cell).holder ≡ None =
    holder_now c.self.inside c.args.self.now c.self.view_is c.self.invariant c.args.cell
    ∙ sym c.holds.ensures.answer ∙ c.in-None.is in
    sym c.self.view_is
    ∙ (λ i. record {
      cells = length cells;
      lists = sym (absent-unlinked cells ends (lists_in cells ends) c.self.invariant c.args.cell absent) i;
    })
    ∙ ap (λ (links : LinksData). unlinked links c.args.cell) c.self.view_is

pub returns-in-Some-clause-holders : goal.returns-in-Some-clause-holders
returns-in-Some-clause-holders c = λ other.
    ap (λ (links : LinksData). holder_of links other) (returns-in-Some-clause-links c)
    ∙ held-unlinked c.self.inside c.args.self.now c.self.view_is c.self.invariant c.in-Some.list c.args.cell
    (sym c.holds.ensures.answer ∙ c.in-Some.is) other

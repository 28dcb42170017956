use Rattle.std.proofs.Common.{length, ap, sym, ◌∙◌}
use Rattle.px_links.specs.Links.{LinksData, popped, holder_of}
use Rattle.px_links.specs.Lists.{without_cell}
use Rattle.px_links.specs.Keeping.{lists_in}
use Rattle.px_links.proofs.Handing.{kept, data_is}
use Rattle.px_links.proofs.Holding.{held-popped}
use Rattle.px_links.proofs.Reading.{first_held}
use Rattle.px_links.proofs.links.Links.pop_front.Goals as goal

pub take_out-requires-clause-held : goal.take_out-requires-clause-held
take_out-requires-clause-held c = rw (c.deref_mut.ensures.value) (first_held c.self.inside c.args.self.now c.self.view_is
    c.self.invariant c.args.list c.in_ok-first.first (sym c.first.ensures.answer ∙ c.in_ok-first.was)).0

pub invariant_of-self : goal.invariant_of-self
invariant_of-self c = kept c.self.inside c.take_out.new.cells c.take_out.new.ends _ c.take_out.ensures
    (c.take_out.auto.cells ∙ c.deref_mut.ensures.len) (c.take_out.auto.ends ∙ c.deref_mut-2.ensures.len)

pub returns-clause-links : goal.returns-clause-links
returns-clause-links c =
    data_is c.self.inside c.take_out.new.cells c.take_out.new.ends _ c.take_out.ensures
    (c.take_out.auto.cells ∙ c.deref_mut.ensures.len) (c.take_out.auto.ends ∙ c.deref_mut-2.ensures.len)
    ∙ (λ i. record {
      cells = length c.self.inside.cells.items;
      lists = without_cell (lists_in (c.deref_mut.ensures.value i) (c.deref_mut-2.ensures.value i)) c.in_ok-first.first;
    })
    ∙ (λ i. record {
      cells = length c.self.inside.cells.items;
      lists = (first_held c.self.inside c.args.self.now c.self.view_is c.self.invariant c.args.list c.in_ok-first.first
          (sym c.first.ensures.answer ∙ c.in_ok-first.was)).1 i;
    })
    ∙ ap (λ (links : LinksData). popped links c.args.list) c.self.view_is

pub returns-clause-holders : goal.returns-clause-holders
returns-clause-holders c = λ other.
    ap (λ (links : LinksData). holder_of links other) (returns-clause-links c)
    ∙ held-popped c.self.inside c.args.self.now c.self.view_is c.self.invariant c.args.list c.in_ok-first.first
    (sym c.first.ensures.answer ∙ c.in_ok-first.was) other

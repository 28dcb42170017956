use Rattle.std.proofs.Common.{◌≡◌, length, not, Some, None, is_none, is_some, nat_eq, subst, ap, sym, ◌∙◌, if◌then◌else◌}
use Rattle.std.proofs.option.Match.{None-if_not_some}
use Rattle.px_links.specs.Links.{LinksData, pushed, holder_of}
use Rattle.px_links.specs.Lists.{with_last}
use Rattle.px_links.specs.Keeping.{lists_in}
use Rattle.px_links.proofs.Handing.{kept, data_is}
use Rattle.px_links.proofs.Holding.{held-pushed}
use Rattle.px_links.proofs.Reading.{holder_now}
use Rattle.px_links.proofs.links.Links.push_back_absent.Goals as goal

pub link_last-requires-clause-absent : goal.link_last-requires-clause-absent
link_last-requires-clause-absent c = rw (c.deref_mut.ensures.value) (
    holder_now c.self.inside c.args.self.now c.self.view_is c.self.invariant c.args.cell ∙ sym c.holds.ensures.answer
    ∙ None-if_not_some c.holds.result (sym c.is_some.ensures ∙ c.if-is_some.false))

pub invariant_of-self : goal.invariant_of-self
invariant_of-self c = kept c.self.inside c.link_last.new.cells c.link_last.new.ends _ c.link_last.ensures
    (c.link_last.auto.cells ∙ c.deref_mut.ensures.len) (c.link_last.auto.ends ∙ c.deref_mut-2.ensures.len)

pub returns-clause-links : goal.returns-clause-links
returns-clause-links c =
    data_is c.self.inside c.link_last.new.cells c.link_last.new.ends _ c.link_last.ensures
    (c.link_last.auto.cells ∙ c.deref_mut.ensures.len) (c.link_last.auto.ends ∙ c.deref_mut-2.ensures.len)
    ∙ (λ i. record {
      cells = length c.self.inside.cells.items;
      lists = with_last (lists_in (c.deref_mut.ensures.value i) (c.deref_mut-2.ensures.value i)) c.args.list c.args.cell;
    })
    ∙ ap (λ (links : LinksData). pushed links c.args.list c.args.cell) c.self.view_is
    ∙ ap (λ found. if not (is_some found) then pushed c.args.self.now c.args.list c.args.cell else c.args.self.now)
    (sym (None-if_not_some c.holds.result (sym c.is_some.ensures ∙ c.if-is_some.false)) ∙ c.holds.ensures.answer)

pub returns-clause-holders : goal.returns-clause-holders
returns-clause-holders c = λ other.
    let now = c.args.self.now in
    let absent : holder_of now c.args.cell ≡ None =
    sym c.holds.ensures.answer ∙ None-if_not_some c.holds.result (sym c.is_some.ensures ∙ c.if-is_some.false) in
    ap (λ (links : LinksData). holder_of links other) (returns-clause-links c)
    ∙ subst (λ found. holder_of (if is_none found then pushed now c.args.list c.args.cell else now) other
    ≡ (if nat_eq c.args.cell other then (if is_none found then Some c.args.list else found) else holder_of now other))
    (sym absent)
    (held-pushed c.self.inside now c.self.view_is c.self.invariant c.args.list c.args.cell c.requires.list c.requires.cell
    absent other)

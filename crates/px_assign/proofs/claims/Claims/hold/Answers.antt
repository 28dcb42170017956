use Rattle.std.proofs.Common.{◌≡◌, get_or, Some, None, ap, sym, ◌∙◌, subst}
use Rattle.px_links.specs.Links.{HoldsOthersAsBefore}
use Rattle.px_tally.specs.Tally.{TallyData}
use Rattle.px_assign.specs.Keeping.{IsKept, holder_for, is_contested}
use Rattle.px_assign.proofs.Table.{held_tallies, held_then, held_alone}
use Rattle.px_assign.proofs.claims.Claims.hold.Goals as goal

pub invariant_of-self : goal.invariant_of-self
invariant_of-self c =
    let t = c.self.inside in
    let kept = c.self.invariant in
    let is = c.set.ensures.tally in
    let of : get_or t.holding.group_of c.args.node None ≡ Some c.in-Some.variable =
    sym (ap (λ (tally : TallyData). get_or tally.group_of c.args.node None) is) ∙ sym c.group.ensures ∙ c.in-Some.is in
    subst (λ (now : TallyData). IsKept (record { firsts = t.firsts; wanting = t.wanting; holding = now; contested = c.judge.new.contested })) (sym is)
    (record {
      order = kept.order;
      tallies = held_tallies t.wanting t.holding kept.tallies c.args.node c.args.holds;
      ranked = kept.ranked;
      variables = kept.variables;
      firsts = kept.firsts;
      cells = c.judge.ensures.counts.0 ∙ kept.cells;
      lists = c.judge.ensures.counts.1 ∙ kept.lists;
      contested = held_then t.wanting t.holding kept.tallies c.args.node c.args.holds t.contested c.judge.new.contested
          kept.contested c.in-Some.variable of
          (subst (λ (now : TallyData). HoldsOthersAsBefore t.contested c.judge.new.contested c.in-Some.variable
          (holder_for (is_contested t.wanting now c.in-Some.variable))) is c.judge.ensures.holders);
    })

pub invariant_of-self-in_default : goal.invariant_of-self-in_default
invariant_of-self-in_default c =
    let t = c.self.inside in
    let kept = c.self.invariant in
    let is = c.set.ensures.tally in
    let none : get_or t.holding.group_of c.args.node None ≡ None =
    sym (ap (λ (tally : TallyData). get_or tally.group_of c.args.node None) is) ∙ sym c.group.ensures ∙ c.in_default.is in
    subst (λ (now : TallyData). IsKept (record { firsts = t.firsts; wanting = t.wanting; holding = now; contested = t.contested })) (sym is)
    (record {
      order = kept.order;
      tallies = held_tallies t.wanting t.holding kept.tallies c.args.node c.args.holds;
      ranked = kept.ranked;
      variables = kept.variables;
      firsts = kept.firsts;
      cells = kept.cells;
      lists = kept.lists;
      contested = held_alone t.wanting t.holding kept.tallies c.args.node c.args.holds t.contested kept.contested none;
    })

use Rattle.std.proofs.Common.{◌≡◌, ◌<◌, ◌≤◌, ℕ, length, set, get_or, Some, None, ap, sym, ◌∙◌, subst, arith}
use Rattle.std.proofs.lemmas.List.{get_or_default, length-set}
use Rattle.px_links.specs.Links.{HoldsOthersAsBefore}
use Rattle.px_tally.specs.Tally.{TallyData, is_counted, marked}
use Rattle.px_assign.specs.declared.firsts.Firsts.{Firsts}
use Rattle.px_assign.specs.Keeping.{HoldsFirsts, IsKept, holder_for, is_contested}
use Rattle.px_assign.specs.Ordering.{but_for, place_wanting}
use Rattle.px_assign.proofs.Places.{but_it, firsts_alone, firsts_then}
use Rattle.px_assign.proofs.Table.{wanted_tallies, wanted_then, wanted_alone}
use Rattle.px_assign.proofs.claims.Claims.want.Goals as goal
use Rattle.px_assign.proofs.claims.Claims.want.Goals.{In-Some}

module _ (c : In-Some) where
  of : get_or c.self.inside.wanting.group_of c.args.node None ≡ Some c.in-Some.variable
  of = sym (ap (λ (tally : TallyData). get_or tally.group_of c.args.node None) c.set.ensures.tally) ∙ sym c.group.ensures
      ∙ c.in-Some.is

  inside : c.in-Some.variable < length c.self.inside.firsts.places.items
  inside = omega (arith, c.self.invariant.tallies.within c.args.node c.in-Some.variable of, c.self.invariant.variables)

pub turn-requires-clause-before : goal.turn-requires-clause-before
turn-requires-clause-before c =
    let t = c.self.inside in
    let at = (goal.at.turn-requires-clause-before c).In-Some in
    let variable : ℕ = c.in-Some.variable in
    subst (λ (now : TallyData). get_or t.firsts.places.items variable 0
    ≤ place_wanting (but_for c.args.node (is_counted now)) t.firsts.writers.items variable) (sym c.set.ensures.tally)
    (omega (
      arith,
      c.self.invariant.firsts variable,
      get_or_default t.firsts.places.items variable 0 (length t.firsts.writers.items) (inside at),
      but_it t.wanting c.args.node c.args.wants t.firsts.writers.items variable,
    ))

pub invariant_of-self : goal.invariant_of-self
invariant_of-self c =
    let t = c.self.inside in
    let kept = c.self.invariant in
    let at = (goal.at.invariant_of-self c).In-Some in
    let variable : ℕ = c.in-Some.variable in
    let then : TallyData = marked t.wanting c.args.node c.args.wants in
    let is = c.set.ensures.tally in
    let turned : Firsts = record { writers = t.firsts.writers; ranks = t.firsts.ranks; places = c.turn.new.self.places } in
    let same : c.turn.new.self ≡ turned = λ i. record {
      writers = c.turn.ensures.rest.0 i;
      ranks = c.turn.ensures.rest.1 i;
      places = c.turn.new.self.places;
    } in
    let places : c.turn.new.self.places.items
    ≡ set t.firsts.places.items variable (place_wanting (is_counted then) t.firsts.writers.items variable) =
    c.turn.ensures.places ∙ ap (λ (now : TallyData). set t.firsts.places.items variable
    (place_wanting (is_counted now) t.firsts.writers.items variable)) is in
    subst (λ (now : TallyData). IsKept (record { firsts = c.turn.new.self; wanting = now; holding = t.holding; contested = c.judge.new.contested })) (sym is)
    (subst (λ (firsts : Firsts). IsKept (record { firsts = firsts; wanting = then; holding = t.holding; contested = c.judge.new.contested })) (sym same)
    (record {
      order = kept.order;
      tallies = wanted_tallies t.wanting t.holding kept.tallies c.args.node c.args.wants;
      ranked = kept.ranked;
      variables = ap length places
          ∙ length-set t.firsts.places.items variable (place_wanting (is_counted then) t.firsts.writers.items variable)
          ∙ kept.variables;
      firsts = subst (HoldsFirsts then t.firsts.writers.items) (sym places)
          (firsts_then t.wanting c.args.node c.args.wants t.firsts.writers.items kept.ranked.groups t.firsts.places.items
          kept.firsts variable (of at) (inside at));
      cells = c.judge.ensures.counts.0 ∙ kept.cells;
      lists = c.judge.ensures.counts.1 ∙ kept.lists;
      contested = wanted_then t.wanting t.holding kept.tallies c.args.node c.args.wants t.contested c.judge.new.contested
          kept.contested variable (of at)
          (subst (λ (now : TallyData). HoldsOthersAsBefore t.contested c.judge.new.contested variable
          (holder_for (is_contested now t.holding variable))) is c.judge.ensures.holders);
    }))

pub invariant_of-self-in_default : goal.invariant_of-self-in_default
invariant_of-self-in_default c =
    let t = c.self.inside in
    let kept = c.self.invariant in
    let is = c.set.ensures.tally in
    let none : get_or t.wanting.group_of c.args.node None ≡ None =
    sym (ap (λ (tally : TallyData). get_or tally.group_of c.args.node None) is) ∙ sym c.group.ensures ∙ c.in_default.is in
    subst (λ (now : TallyData). IsKept (record { firsts = t.firsts; wanting = now; holding = t.holding; contested = t.contested })) (sym is)
    (record {
      order = kept.order;
      tallies = wanted_tallies t.wanting t.holding kept.tallies c.args.node c.args.wants;
      ranked = kept.ranked;
      variables = kept.variables;
      firsts = firsts_alone t.wanting c.args.node c.args.wants t.firsts.writers.items kept.ranked.groups t.firsts.places.items
          kept.firsts none;
      cells = kept.cells;
      lists = kept.lists;
      contested = wanted_alone t.wanting t.holding kept.tallies c.args.node c.args.wants t.contested kept.contested none;
    })
